use Rattle.std.proofs.Common.{refl, ◌≡◌, ◌∷◌, [], false, sym, ◌∙◌, inl, inr}
use Rattle.bus_server.specs.Snapshots.{snapshot, state_of}
use Rattle.bus_server.specs.Rounds.{PreservesRound, WritesNone}
use Rattle.bus_server.specs.ServerState.{has_overflowed, observations_of}
use Rattle.bus_server.specs.Observations.{Overflowed}
use Rattle.bus_server.specs.TransportEvents.{ServerClosed}
use Rattle.bus_server.proofs.Going.{calm_nowhere, goes_one, grows_more}
use Rattle.bus_server.proofs.Keeping.{left_is_not_late, left_keeps, only_leaves}
use Rattle.bus_server.proofs.Stopping.{stops_first, stopped}
use Rattle.bus_server.proofs.server.Server.close_overflowed.Goals as goal

pub returns-then-not-has_overflowed-clause-served : goal.returns-then-not-has_overflowed-clause-served
returns-then-not-has_overflowed-clause-served g c = calm_nowhere (λ more new. (has_overflowed new c.args.client ≡ false) × WritesNone more) (snapshot (g.W.Transport.log c.args.transport.now) (g.P.Observer.observed c.args.observer.now) c.args.self.now.hub) (sym c.has_overflowed.ensures ∙ c.if-not-has_overflowed.true, λ other. refl)

pub returns-clause-served : goal.returns-clause-served
returns-clause-served g c =
    let client = c.args.client in
    let old = state_of c.args.self.now.hub in
    let new = state_of c.apply.new.self.hub in
    let does = c.apply.ensures.happened in
    let remaining = only_leaves client does.0 old new does.2 in
    goes_one (λ more all. PreservesRound more old all × ((has_overflowed all client ≡ false) × WritesNone more)) (ServerClosed client) does.0 (snapshot (g.W.Transport.log c.args.transport.now) (g.P.Observer.observed c.args.observer.now) c.args.self.now.hub) (snapshot (g.W.Transport.log c.close.new.self) (g.P.Observer.observed c.apply.new.observer) c.apply.new.self.hub) c.close.ensures
    (grows_more (g.P.Observer.observed c.args.observer.now) (g.P.Observer.observed c.overflowed.new.self) (g.P.Observer.observed c.apply.new.observer) (Overflowed client ∷ []) (observations_of does.0) c.overflowed.ensures.observed does.1)
    (sym c.has_overflowed.ensures ∙ c.if-not-has_overflowed.false, does.2)
    (left_keeps client remaining.0 (ServerClosed client ∷ []) old new refl remaining.1, (left_is_not_late client remaining.0 old new remaining.1, λ other. refl))

pub returns-in_err-overflowed-clause-served : goal.returns-in_err-overflowed-clause-served
returns-in_err-overflowed-clause-served g c =
    stopped _ c.from_residual.result _ _ _ c.from_residual.ensures.1
    (stops_first (ServerClosed c.args.client) [] (snapshot (g.W.Transport.log c.args.transport.now) (g.P.Observer.observed c.args.observer.now) c.args.self.now.hub) (snapshot (g.W.Transport.log c.close.new.self) (g.P.Observer.observed c.overflowed.new.self) c.args.self.now.hub) c.close.ensures c.overflowed.ensures.observed
    (inr (sym c.has_overflowed.ensures ∙ c.if-not-has_overflowed.false, refl, refl)))

pub returns-in_err-apply-clause-served : goal.returns-in_err-apply-clause-served
returns-in_err-apply-clause-served g c =
    let client = c.args.client in
    let begun = c.apply.ensures.happened in
    stopped _ c.from_residual-in_err-apply.result _ _ _ c.from_residual-in_err-apply.ensures.1
    (stops_first (ServerClosed client) begun.0 (snapshot (g.W.Transport.log c.args.transport.now) (g.P.Observer.observed c.args.observer.now) c.args.self.now.hub) (snapshot (g.W.Transport.log c.close.new.self) (g.P.Observer.observed c.apply.new.observer) c.apply.new.self.hub) c.close.ensures
    (grows_more (g.P.Observer.observed c.args.observer.now) (g.P.Observer.observed c.overflowed.new.self) (g.P.Observer.observed c.apply.new.observer) (Overflowed client ∷ []) (observations_of begun.0) c.overflowed.ensures.observed begun.1)
    (inl (sym c.has_overflowed.ensures ∙ c.if-not-has_overflowed.false, begun.2)))
