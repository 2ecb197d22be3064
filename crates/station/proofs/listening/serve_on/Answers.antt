use Rattle.std.proofs.Common.{◌≡◌, ◌∙◌, refl, subst, inl, inr, arith, rules}
use Rattle.station.proofs.Connecting.{given_up, part_none, part_whole, passed_up, served_all, served_more, served_none, stops_showing}
use Rattle.station.proofs.Replaying.{done_none}
use Rattle.console.specs.declared.fault.RunFault.{RunFault}
use Rattle.console.specs.declared.fault.RunFault.TheVariants.{Network, Output}
use Rattle.station.specs.Connections.{HasGivenUp}
use Rattle.station.specs.Layout.{entries_in, roster_value}
use Rattle.station_core.specs.Powered.{HasDesk}
use Rattle.station_core.specs.Seen.{Seen}
use Rattle.station.proofs.listening.serve_on.Goals as goal

pub loop-served-preserved : goal.loop-served-preserved
loop-served-preserved g c = record {
  nodes = c.serve_connection.ensures.same.specs ∙ c.loop-served.invariant.nodes;
  served =
      served_more c.events_add_up.ensures.more c.args.limits c.loop-served._served (entries_in (roster_value c.args.roster)) c.args.world.now c.loop-served.world c.serve_connection.new.world
      (g.O.Sink.held c.args.output.now) (g.O.Sink.held c.loop-served.output) (g.O.Sink.held c.serve_connection.new.output) (g.O.Sink.held c.print_nodes.new.output)
      c.loop-served.invariant.served c.in_ok-serve_connection.ensures.served c.in_ok-print_nodes.ensures.printed;
  writes = ◌∙◌ {b = g.O.Sink.failed c.serve_connection.new.output} c.in_ok-print_nodes.ensures.failed c.in_ok-serve_connection.ensures.unwritten;
}

pub returns-in_default-clause-given_up : goal.returns-in_default-clause-given_up
returns-in_default-clause-given_up g c =
    given_up Network c.args.limits c.loop-served._served c.args.connections (entries_in (roster_value c.args.roster)) c.args.world.now c.loop-served.world c.loop-served.world
    (g.O.Sink.held c.args.output.now) (g.O.Sink.held c.loop-served.output) (g.O.Sink.held c.loop-served.output) c.loop-served.invariant.served c.loop-served-test.true
    (part_none c.args.limits.turns c.loop-served.world (done_none c.events_add_up.ensures.none c.loop-served.world)) (inl (refl, refl, refl))

pub returns-in_err-serve_connection-clause-given_up : goal.returns-in_err-serve_connection-clause-given_up
returns-in_err-serve_connection-clause-given_up g c =
    let fault : RunFault = c.in_err-serve_connection.field-0.0 in
    passed_up c.from_residual.result fault
    (λ (e : RunFault). HasGivenUp e c.args.limits c.args.connections (entries_in (roster_value c.args.roster)) c.args.world.now c.serve_connection.new.world (g.O.Sink.held c.args.output.now) (g.O.Sink.held c.serve_connection.new.output))
    (search rules)
    (given_up fault c.args.limits c.loop-served._served c.args.connections (entries_in (roster_value c.args.roster)) c.args.world.now c.loop-served.world c.serve_connection.new.world
    (g.O.Sink.held c.args.output.now) (g.O.Sink.held c.loop-served.output) (g.O.Sink.held c.serve_connection.new.output) c.loop-served.invariant.served c.loop-served-test.true
    c.in_err-serve_connection.ensures.part (inr (inl c.in_err-serve_connection.ensures.given_up)))

pub returns-in_err-print_nodes-clause-given_up : goal.returns-in_err-print_nodes-clause-given_up
returns-in_err-print_nodes-clause-given_up g c =
    let served = c.in_ok-serve_connection.ensures.served in
    passed_up c.from_residual-in_err-print_nodes.result Output
    (λ (e : RunFault). HasGivenUp e c.args.limits c.args.connections (entries_in (roster_value c.args.roster)) c.args.world.now c.serve_connection.new.world (g.O.Sink.held c.args.output.now) (g.O.Sink.held c.print_nodes.new.output))
    (search rules)
    (given_up Output c.args.limits c.loop-served._served c.args.connections (entries_in (roster_value c.args.roster)) c.args.world.now c.loop-served.world c.serve_connection.new.world
    (g.O.Sink.held c.args.output.now) (g.O.Sink.held c.loop-served.output) (g.O.Sink.held c.print_nodes.new.output) c.loop-served.invariant.served c.loop-served-test.true
    (part_whole c.args.limits c.loop-served.world c.serve_connection.new.world _ _ served) (inr (inr (refl, stops_showing c.args.limits (entries_in (roster_value c.args.roster)) c.loop-served.world c.serve_connection.new.world _ _ _ served c.in_err-print_nodes.ensures.front))))

pub returns-clause-served : goal.returns-clause-served
returns-clause-served g c =
    let all : c.loop-served._served ≡ c.args.connections = omega (arith, c.loop-served-test.false) in
    let desk : HasDesk c.args.world.now.station.powered = subst (λ (seen : Seen). HasDesk seen.powered) c.station.ensures c.always_legal.ensures.desk in
    served_all c.headline.ensures.headline c.args.limits c.loop-served._served c.args.connections (entries_in (roster_value c.args.roster)) c.args.world.now c.loop-served.world
    (g.O.Sink.held c.args.output.now) (g.O.Sink.held c.loop-served.output) desk all c.loop-served.invariant.served

pub loop-served-init : goal.loop-served-init
loop-served-init g c = record { nodes = c.requires.nodes; writes = c.requires.writes; served = served_none c.events_add_up.ensures.none c.args.limits (entries_in (roster_value c.args.roster)) c.args.world.now (g.O.Sink.held c.args.output.now) }
