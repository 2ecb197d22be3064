use Rattle.std.proofs.Common.{◌+◌, ◌∙◌, ap, refl, map, subst, arith}
use Rattle.layout_core.specs.Nodes.{spec_of}
use Rattle.bus.specs.declared.bus.Bus.{Bus}
use Rattle.bus.specs.declared.event.Event.TheVariants.{Disconnects}
use Rattle.bus_server.specs.Snapshots.{snapshot, state_of}
use Rattle.bus_server.specs.Rounds.{Writes}
use Rattle.bus_server.specs.ServerState.{RunsEventWithReports, ServerState}
use Rattle.bus_server.proofs.Going.{calm_nowhere, calm_then, grows_none}
use Rattle.bus_server.proofs.Rounding.{HasPut, IsPiece, calm_weaker, more_pieces, put_four, put_then, wrote_later, wrote_one, wrote_to_none}
use Rattle.bus_server.proofs.Stopping.{stops_behind, stops_first, stopped}
use Rattle.bus_server.specs.TransportEvents.{PeerClosed}
use Rattle.bus_server.proofs.server.Server.write.Goals as goal

pub loop-piece-init : goal.loop-piece-init
loop-piece-init g c = record { ready = c.requires.ready; served = calm_nowhere (HasPut c.args.client 0) (snapshot (g.W.Transport.log c.args.transport.now) (g.P.Observer.observed c.args.observer.now) c.args.self.now.hub) (refl, refl) }

pub loop-piece-preserved : goal.loop-piece-preserved
loop-piece-preserved g c =
    let client = c.args.client in
    let first = c.loop-piece in
    let before = snapshot (g.W.Transport.log first.transport) (g.P.Observer.observed first.observer) first.self.hub in
    let after = snapshot (g.W.Transport.log c.write.new.transport) (g.P.Observer.observed first.observer) c.write.new.self in
    let wrote = c.in-Bytes.ensures.wrote in
    record {
      ready = (ap (λ (bus : Bus). map spec_of bus.world.nodes) c.in-Bytes.ensures.bus ∙ first.invariant.ready.0, c.in-Bytes.ensures.unreported ∙ first.invariant.ready.1);
      served =
          calm_then (HasPut client first._piece) (IsPiece client) (HasPut client (first._piece + 1)) (snapshot (g.W.Transport.log c.args.transport.now) (g.P.Observer.observed c.args.observer.now) c.args.self.now.hub) before after
          (λ these those kept put one. more_pieces client first._piece these those before.state after.state put one)
          first.invariant.served (wrote_one client wrote.0 before after wrote.1 (grows_none (g.P.Observer.observed first.observer)) wrote.2);
    }

pub returns-in-WouldBlock-clause-served : goal.returns-in-WouldBlock-clause-served
returns-in-WouldBlock-clause-served g c =
    let first = c.loop-piece in
    let before = snapshot (g.W.Transport.log first.transport) (g.P.Observer.observed first.observer) first.self.hub in
    let after = snapshot (g.W.Transport.log c.write.new.transport) (g.P.Observer.observed first.observer) c.write.new.self in
    put_then c.args.client first._piece (snapshot (g.W.Transport.log c.args.transport.now) (g.P.Observer.observed c.args.observer.now) c.args.self.now.hub) before after (omega (arith, c.loop-piece-test.true)) first.invariant.served (wrote_later c.args.client before after c.in-WouldBlock.ensures.wrote (grows_none (g.P.Observer.observed first.observer)))

pub returns-in-Closed-clause-served : goal.returns-in-Closed-clause-served
returns-in-Closed-clause-served g c =
    let first = c.loop-piece in
    let client = c.args.client in
    let wrote = c.in-Closed.ensures.wrote in
    let before = snapshot (g.W.Transport.log first.transport) (g.P.Observer.observed first.observer) first.self.hub in
    let after = snapshot (g.W.Transport.log c.write.new.transport) (g.P.Observer.observed c.apply.new.observer) c.apply.new.self.hub in
    let does = c.apply.ensures.happened in
    put_then client first._piece (snapshot (g.W.Transport.log c.args.transport.now) (g.P.Observer.observed c.args.observer.now) c.args.self.now.hub) before after (omega (arith, c.loop-piece-test.true)) first.invariant.served
    (wrote_to_none client does.0 before after wrote.0 does.1 (subst (λ (old : ServerState). RunsEventWithReports (Disconnects client) does.0 old (state_of c.apply.new.self.hub)) wrote.1 does.2))

pub returns-clause-served : goal.returns-clause-served
returns-clause-served g c =
    let first = c.loop-piece in
    calm_weaker (HasPut c.args.client first._piece) (Writes c.args.client) (snapshot (g.W.Transport.log c.args.transport.now) (g.P.Observer.observed c.args.observer.now) c.args.self.now.hub) (snapshot (g.W.Transport.log first.transport) (g.P.Observer.observed first.observer) first.self.hub)
    (λ more put. put_four c.args.client first._piece more (state_of first.self.hub) (omega (arith, first.auto._piece-end, c.loop-piece-test.false)) put)
    first.invariant.served

pub returns-in_err-apply-in-Closed-clause-served : goal.returns-in_err-apply-in-Closed-clause-served
returns-in_err-apply-in-Closed-clause-served g c =
    let first = c.loop-piece in
    let client = c.args.client in
    let wrote = c.in-Closed.ensures.wrote in
    let so_far = first.invariant.served in
    let before = snapshot (g.W.Transport.log first.transport) (g.P.Observer.observed first.observer) first.self.hub in
    let after = snapshot (g.W.Transport.log c.write.new.transport) (g.P.Observer.observed c.apply.new.observer) c.apply.new.self.hub in
    let begun = c.apply.ensures.happened in
    stopped _ c.from_residual.result _ _ _ c.from_residual.ensures.1
    (stops_behind so_far.0 (snapshot (g.W.Transport.log c.args.transport.now) (g.P.Observer.observed c.args.observer.now) c.args.self.now.hub) before after so_far.1 so_far.2 so_far.3
    (stops_first (PeerClosed client) begun.0 before after wrote.0 begun.1 (subst (λ (old : ServerState). RunsEventWithReports (Disconnects client) begun.0 old (state_of c.apply.new.self.hub)) wrote.1 begun.2)))
