use Rattle.std.proofs.Common.{◌≡◌, ◌++◌, ℕ, [], arith, refl, subst}
use Rattle.bus_server.specs.Snapshots.{ProgressesBy, snapshot, state_of}
use Rattle.bus_server.specs.Rounds.{ServesClients}
use Rattle.bus_server.proofs.Going.{acts_more, grows_none, wire_more}
use Rattle.bus_server.proofs.Rounding.{next_turn, turns_serve}
use Rattle.bus_server.proofs.Stopping.{stops_behind, stopped}
use Rattle.bus_server.proofs.server.Server.serve_all.Goals as goal

pub loop-count-init : goal.loop-count-init
loop-count-init g c = record {
  ready = c.requires.ready;
  served = ([], grows_none (g.W.Transport.log c.args.transport.now), grows_none (g.P.Observer.observed c.args.observer.now), (refl, refl));
}

pub loop-count-preserved : goal.loop-count-preserved
loop-count-preserved g c =
    let log = g.W.Transport.log in
    let observed = g.P.Observer.observed in
    let first = c.loop-count in
    let so_far = first.invariant.served in
    let turn = c.in_ok-serve.ensures.served in
    record {
      ready = c.in_ok-serve.ensures.ready;
      served = (
        so_far.0 ++ turn.0,
        wire_more (log c.args.transport.now) (log first.transport) (log c.serve.new.transport) so_far.0 turn.0 so_far.1 turn.1,
        acts_more (observed c.args.observer.now) (observed first.observer) (observed c.serve.new.observer) so_far.0 turn.0 so_far.2 turn.2,
        next_turn c.args.self.now.hub.first_client first.count so_far.0 turn.0 (state_of c.args.self.now.hub) (state_of first.self.hub) (state_of c.serve.new.self.hub) so_far.3 turn.3,
      );
    }

pub returns-clause-served : goal.returns-clause-served
returns-clause-served g c =
    let first = c.loop-count in
    let eight : first.count ≡ 8 = omega (arith, first.auto.count-end, c.loop-count-test.false) in
    subst (λ (n : ℕ). ProgressesBy (ServesClients c.args.self.now.hub.first_client n) (snapshot (g.W.Transport.log c.args.transport.now) (g.P.Observer.observed c.args.observer.now) c.args.self.now.hub) (snapshot (g.W.Transport.log first.transport) (g.P.Observer.observed first.observer) first.self.hub)) eight first.invariant.served

pub returns-in_err-serve-clause-served : goal.returns-in_err-serve-clause-served
returns-in_err-serve-clause-served g c =
    let first = c.loop-count in
    let so_far = first.invariant.served in
    stopped _ c.from_residual.result _ _ _ c.from_residual.ensures.1
    (stops_behind so_far.0 (snapshot (g.W.Transport.log c.args.transport.now) (g.P.Observer.observed c.args.observer.now) c.args.self.now.hub) (snapshot (g.W.Transport.log first.transport) (g.P.Observer.observed first.observer) first.self.hub) (snapshot (g.W.Transport.log c.serve.new.transport) (g.P.Observer.observed c.serve.new.observer) c.serve.new.self.hub) so_far.1 so_far.2
    (turns_serve c.args.self.now.hub.first_client first.count so_far.0 (state_of c.args.self.now.hub) (state_of first.self.hub) so_far.3) c.in_err-serve.ensures.served)
