use Rattle.std.proofs.Common.{◌<◌, ◌≡◌, ◌∷◌, [], length, refl, sym, true, ◌∙◌, arith}
use Rattle.std.specs.List.{list_all}
use Rattle.bus_server.specs.Snapshots.{snapshot, state_of}
use Rattle.bus_server.specs.Rounds.{HasMoreClients, PreservesRound, is_accept}
use Rattle.bus_server.specs.TransportEvents.{Accepted}
use Rattle.bus_server.proofs.Going.{calm_nowhere, goes_one}
use Rattle.bus_server.specs.ServerState.{with_backlog}
use Rattle.bus_server.proofs.Keeping.{keeps_backlog, more_backlog, joined_keeps, joined_places, only_joins}
use Rattle.bus_server.proofs.Stopping.{stops_first, stopped}
use Rattle.bus_server.proofs.server.Server.accept_at.Goals as goal

pub returns-then-is_connected-clause-seats : goal.returns-then-is_connected-clause-seats
returns-then-is_connected-clause-seats g c =
    let all = state_of c.args.self.now.hub in
    calm_nowhere (λ more new. (list_all is_accept more ≡ true) × HasMoreClients c.args.client all new) (snapshot (g.W.Transport.log c.args.transport.now) (g.P.Observer.observed c.args.observer.now) c.args.self.now.hub)
    (refl, record { takes = sym c.is_connected.ensures ∙ c.if-is_connected.true; keeps = λ other placed. placed; turns = refl })

pub returns-clause-seats : goal.returns-clause-seats
returns-clause-seats g c =
    let client = c.args.client in
    let old = state_of c.args.self.now.hub in
    let new = state_of c.apply.new.self.hub in
    let does = c.apply.ensures.happened in
    let joined = only_joins client does.0 (with_backlog old) new does.2 in
    let place : client < length old.queues = omega (arith, c.args.self.now.hub.eight, c.requires.client) in
    let line : client < length old.bus.clients = omega (arith, c.invariant_holds.ensures.kept.client_count, c.requires.client) in
    goes_one (λ more all. PreservesRound more old all × ((list_all is_accept more ≡ true) × HasMoreClients client old all)) (Accepted client) does.0
    (snapshot (g.W.Transport.log c.args.transport.now) (g.P.Observer.observed c.args.observer.now) c.args.self.now.hub) (snapshot (g.W.Transport.log c.accept.new.self) (g.P.Observer.observed c.apply.new.observer) c.apply.new.self.hub) c.if-not-accept.ensures does.1 (c.requires.turns, does.2)
    (keeps_backlog (Accepted client ∷ []) old new (joined_keeps client joined.0 (with_backlog old) new place c.args.self.now.hub.within_capacity joined.1), (refl, more_backlog client old new (joined_places client joined.0 (with_backlog old) new line joined.1)))

pub returns-in_err-apply-clause-seats : goal.returns-in_err-apply-clause-seats
returns-in_err-apply-clause-seats g c =
    let begun = c.apply.ensures.happened in
    stopped _ c.from_residual.result _ _ _ c.from_residual.ensures.1
    (stops_first (Accepted c.args.client) begun.0 (snapshot (g.W.Transport.log c.args.transport.now) (g.P.Observer.observed c.args.observer.now) c.args.self.now.hub) (snapshot (g.W.Transport.log c.accept.new.self) (g.P.Observer.observed c.apply.new.observer) c.apply.new.self.hub) c.if-not-accept.ensures begun.1 (c.requires.turns, begun.2))
