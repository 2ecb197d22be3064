use Rattle.std.proofs.Common.{◌<◌, ◌≡◌, ◌+◌, ℕ, List, false, true, ap, arith, refl, ◌∙◌}
use Rattle.std.specs.List.{list_all, list_any}
use Rattle.bus_server.specs.declared.track_due.TurnsDue.{TurnsDue}
use Rattle.bus_server.specs.TrackDue.{follow_message}
use Rattle.bus_server.specs.Snapshots.{snapshot, state_of}
use Rattle.bus_server.specs.Rounds.{HasMoreClients, AcceptsSome, is_accept}
use Rattle.bus_server.specs.ServerState.{is_connected}
use Rattle.bus_server.proofs.Going.{calm_nowhere, calm_then}
use Rattle.bus_server.proofs.Rounding.{HasAccepted, accepted_more, nobody_more, nobody_waits}
use Rattle.bus_server.proofs.Stopping.{stops_behind, stopped}
use Rattle.bus_server.proofs.server.Server.accept_some.Goals as goal

pub loop-client-init : goal.loop-client-init
loop-client-init g c = record {
  ready = c.requires.ready;
  turns = c.requires.turns;
  served = calm_nowhere (HasAccepted 0) (snapshot (g.W.Transport.log c.args.transport.now) (g.P.Observer.observed c.args.observer.now) c.args.self.now.hub) (refl, λ client within. absurd (omega (arith, within)));
}

pub loop-client-preserved : goal.loop-client-preserved
loop-client-preserved g c =
    let first = c.loop-client in
    let seats = rw c.if-not-branch.false at c.in_ok-accept_at.ensures.seats in
    record {
      ready = c.in_ok-accept_at.ensures.ready;
      turns = ap (λ (turns : List TurnsDue). list_any follow_message turns) seats.4.1.1.turns ∙ first.invariant.turns;
      served =
          calm_then (HasAccepted first.client) (λ more all. (list_all is_accept more ≡ true) × HasMoreClients first.client (state_of first.self.hub) all) (HasAccepted (first.client + 1)) (snapshot (g.W.Transport.log c.args.transport.now) (g.P.Observer.observed c.args.observer.now) c.args.self.now.hub) (snapshot (g.W.Transport.log first.transport) (g.P.Observer.observed first.observer) first.self.hub) (snapshot (g.W.Transport.log c.accept_at.new.transport) (g.P.Observer.observed c.accept_at.new.observer) c.accept_at.new.self.hub)
          (λ these those kept so_far more. accepted_more first.client these those (state_of first.self.hub) (state_of c.accept_at.new.self.hub) so_far more)
          first.invariant.served seats;
    }

pub returns-then-not-branch-clause-served : goal.returns-then-not-branch-clause-served
returns-then-not-branch-clause-served g c =
    let first = c.loop-client in
    let before = (snapshot (g.W.Transport.log first.transport) (g.P.Observer.observed first.observer) first.self.hub) in
    let after = (snapshot (g.W.Transport.log c.accept_at.new.transport) (g.P.Observer.observed c.accept_at.new.observer) c.accept_at.new.self.hub) in
    let seats = rw c.if-not-branch.true at c.in_ok-accept_at.ensures.seats in
    calm_then (HasAccepted first.client) (AcceptsSome false) (AcceptsSome false) (snapshot (g.W.Transport.log c.args.transport.now) (g.P.Observer.observed c.args.observer.now) c.args.self.now.hub) before after
    (λ these those kept so_far last. nobody_more first.client these those before.state after.state so_far last)
    first.invariant.served (nobody_waits before after seats.0 seats.1 seats.2)

pub returns-clause-served : goal.returns-clause-served
returns-clause-served g c =
    let first = c.loop-client in
    let so_far = first.invariant.served in
    let taken : (other : ℕ) → other < 8 → is_connected (state_of first.self.hub) other ≡ true =
    λ other within. let before : other < first.client = omega (arith, within, c.loop-client-test.false) in so_far.4.1.1 other before in
    (so_far.0, so_far.1, so_far.2, so_far.3, (so_far.4.0, (so_far.4.1.0, taken)))

pub returns-in_err-accept_at-clause-served : goal.returns-in_err-accept_at-clause-served
returns-in_err-accept_at-clause-served g c =
    let first = c.loop-client in
    let so_far = first.invariant.served in
    stopped _ c.from_residual.result _ _ _ c.from_residual.ensures.1
    (stops_behind so_far.0 (snapshot (g.W.Transport.log c.args.transport.now) (g.P.Observer.observed c.args.observer.now) c.args.self.now.hub) (snapshot (g.W.Transport.log first.transport) (g.P.Observer.observed first.observer) first.self.hub) (snapshot (g.W.Transport.log c.accept_at.new.transport) (g.P.Observer.observed c.accept_at.new.observer) c.accept_at.new.self.hub) so_far.1 so_far.2 so_far.3 c.in_err-accept_at.ensures.seats)
