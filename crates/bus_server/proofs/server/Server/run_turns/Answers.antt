use Rattle.std.proofs.Common.{◌≡◌, ◌<◌, ◌++◌, [], ℕ, arith, refl, subst}
use Rattle.bus_server.specs.Snapshots.{IsObserved, state_of}
use Rattle.bus_server.specs.Track.{RunsTurns}
use Rattle.bus_server.proofs.Going.{grows_none, shown_more}
use Rattle.bus_server.proofs.Stopping.{whatever_fails}
use Rattle.bus_server.proofs.Tracking.{turns_then}
use Rattle.bus_server.proofs.server.Server.run_turns.Goals as goal

pub loop-client-init : goal.loop-client-init
loop-client-init g c = record { ready = c.requires.ready; happened = ([], grows_none (g.P.Observer.observed c.args.observer.now), (refl, refl)) }

pub loop-client-preserved : goal.loop-client-preserved
loop-client-preserved g c =
    let first = c.loop-client in
    let so_far = first.invariant.happened in
    let one = c.in_ok-run_turns_of.ensures.happened in
    record {
      ready = c.in_ok-run_turns_of.ensures.ready;
      happened = (
        so_far.0 ++ one.0,
        shown_more (g.P.Observer.observed c.args.observer.now) (g.P.Observer.observed first.observer) (g.P.Observer.observed c.run_turns_of.new.observer) so_far.0 one.0 so_far.1 one.1,
        turns_then first.client so_far.0 one.0 (state_of c.args.self.now.hub) (state_of first.self.hub) (state_of c.run_turns_of.new.self.hub) so_far.2 one.2,
      );
    }

pub returns-clause-happened : goal.returns-clause-happened
returns-clause-happened g c =
    let first = c.loop-client in
    let eight : first.client ≡ 8 = omega (arith, first.auto.client-end, c.loop-client-test.false) in
    subst (λ (n : ℕ). IsObserved (λ applied. RunsTurns n applied (state_of c.args.self.now.hub) (state_of first.self.hub)) (g.P.Observer.observed c.args.observer.now) (g.P.Observer.observed first.observer)) eight first.invariant.happened

pub returns-in_err-run_turns_of-clause-stops : goal.returns-in_err-run_turns_of-clause-stops
returns-in_err-run_turns_of-clause-stops g c =
    let first = c.loop-client in
    let so_far = first.invariant.happened in
    let stops = c.in_err-run_turns_of.ensures.stops in
    let among : first.client < 8 = c.loop-client-test.true in
    whatever_fails c.from_residual.result (
      so_far.0 ++ stops.0,
      shown_more (g.P.Observer.observed c.args.observer.now) (g.P.Observer.observed first.observer) (g.P.Observer.observed c.run_turns_of.new.observer) so_far.0 stops.0 so_far.1 stops.1,
      (first.client, stops.2.0, so_far.0, stops.0, state_of first.self.hub, among, refl, so_far.2, stops.2.3, stops.2.1, stops.2.2),
    )
