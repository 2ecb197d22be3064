use Rattle.std.proofs.Common.{◌+◌, ℕ, false, subst, ◌≡◌, arith}
use Rattle.bus_server.specs.Snapshots.{snapshot, state_of}
use Rattle.bus_server.specs.Rounds.{AllWrittenTo, IsFair, Writes, WritesNone}
use Rattle.bus_server.specs.ServerState.{has_overflowed}
use Rattle.bus_server.proofs.Going.{calm_nowhere, calm_then}
use Rattle.bus_server.proofs.Rounding.{AllAndOne, AllShared, all_fair, calm_weaker, one_on_time, one_written}
use Rattle.bus_server.proofs.Stopping.{stops_behind, stopped}
use Rattle.bus_server.proofs.server.Server.write_all.Goals as goal

pub loop-client-init : goal.loop-client-init
loop-client-init g c = record { ready = c.requires.ready; served = calm_nowhere (AllShared 0) (snapshot (g.W.Transport.log c.args.transport.now) (g.P.Observer.observed c.args.observer.now) c.args.self.now.hub) (λ client within. absurd (omega (arith, within)), λ other. omega arith) }

pub loop-client-preserved : goal.loop-client-preserved
loop-client-preserved g c =
    let first = c.loop-client in
    let start = snapshot (g.W.Transport.log c.args.transport.now) (g.P.Observer.observed c.args.observer.now) c.args.self.now.hub in
    let before = snapshot (g.W.Transport.log first.transport) (g.P.Observer.observed first.observer) first.self.hub in
    let after_round = snapshot (g.W.Transport.log c.write.new.transport) (g.P.Observer.observed c.write.new.observer) c.write.new.self.hub in
    record {
      ready = c.in_ok-close_overflowed.ensures.ready;
      served =
          calm_then (AllAndOne first.client) (λ more all. (has_overflowed all first.client ≡ false) × WritesNone more) (AllShared (first.client + 1)) start after_round (snapshot (g.W.Transport.log c.close_overflowed.new.transport) (g.P.Observer.observed c.close_overflowed.new.observer) c.close_overflowed.new.self.hub)
          (λ these those kept done overflowed. one_on_time first.client these those (state_of c.write.new.self.hub) (state_of c.close_overflowed.new.self.hub) kept done overflowed)
          (calm_then (AllShared first.client) (Writes first.client) (AllAndOne first.client) start before after_round
          (λ these those kept all one. one_written first.client these those (state_of first.self.hub) (state_of c.write.new.self.hub) kept all one)
          first.invariant.served c.in_ok-write.ensures.served)
          c.in_ok-close_overflowed.ensures.served;
    }

pub returns-in_err-write-clause-served : goal.returns-in_err-write-clause-served
returns-in_err-write-clause-served g c =
    let first = c.loop-client in
    let so_far = first.invariant.served in
    stopped _ c.from_residual.result _ _ _ c.from_residual.ensures.1
    (stops_behind so_far.0 (snapshot (g.W.Transport.log c.args.transport.now) (g.P.Observer.observed c.args.observer.now) c.args.self.now.hub) (snapshot (g.W.Transport.log first.transport) (g.P.Observer.observed first.observer) first.self.hub) (snapshot (g.W.Transport.log c.write.new.transport) (g.P.Observer.observed c.write.new.observer) c.write.new.self.hub) so_far.1 so_far.2 so_far.3 c.in_err-write.ensures.served)

pub returns-in_err-close_overflowed-clause-served : goal.returns-in_err-close_overflowed-clause-served
returns-in_err-close_overflowed-clause-served g c =
    let first = c.loop-client in
    let so_far = first.invariant.served in
    let wrote = c.in_ok-write.ensures.served in
    let mid = (snapshot (g.W.Transport.log c.write.new.transport) (g.P.Observer.observed c.write.new.observer) c.write.new.self.hub) in
    let after = (snapshot (g.W.Transport.log c.close_overflowed.new.transport) (g.P.Observer.observed c.close_overflowed.new.observer) c.close_overflowed.new.self.hub) in
    stopped _ c.from_residual-in_err-close_overflowed.result _ _ _ c.from_residual-in_err-close_overflowed.ensures.1
    (stops_behind so_far.0 (snapshot (g.W.Transport.log c.args.transport.now) (g.P.Observer.observed c.args.observer.now) c.args.self.now.hub) (snapshot (g.W.Transport.log first.transport) (g.P.Observer.observed first.observer) first.self.hub) after so_far.1 so_far.2 so_far.3
    (stops_behind wrote.0 (snapshot (g.W.Transport.log first.transport) (g.P.Observer.observed first.observer) first.self.hub) mid after wrote.1 wrote.2 wrote.3 c.in_err-close_overflowed.ensures.served))

pub returns-clause-served : goal.returns-clause-served
returns-clause-served g c =
    let first = c.loop-client in
    let eight : first.client ≡ 8 = omega (arith, first.auto.client-end, c.loop-client-test.false) in
    calm_weaker (AllShared first.client) (λ more all. AllWrittenTo 8 more all × IsFair more) (snapshot (g.W.Transport.log c.args.transport.now) (g.P.Observer.observed c.args.observer.now) c.args.self.now.hub) (snapshot (g.W.Transport.log first.transport) (g.P.Observer.observed first.observer) first.self.hub)
    (λ more shared. (subst (λ (n : ℕ). AllWrittenTo n more (state_of first.self.hub)) eight shared.0, all_fair first.client more (state_of first.self.hub) shared))
    first.invariant.served
