use Rattle.std.proofs.Common.{rules}
use Rattle.station.specs.Connections.{listening_text}
use Rattle.station.specs.Layout.{entries_in, roster_value}
use Rattle.station.proofs.Connecting.{served_after}
use Rattle.station.proofs.Running.{served_new}
use Rattle.station.proofs.executing.serve_new.Goals as goal

pub returns-clause-done : goal.returns-clause-done
returns-clause-done g c =
    served_new c.serve_on.result c.args.port c.args.roster c.args.limits c.args.connections c.in_ok-roster.roster (roster_value c.as_ref.result) (roster_value c.as_ref-2.result) c.in_ok-world.world c.serve_on.new.world
    (g.O.Sink.held c.args.output.now) (g.O.Sink.held c.serve_on.new.output)
    (search rules) (search rules) c.in_ok-roster.ensures.roster c.in_ok-world.ensures.new
    (served_after c.serve_on.result c.args.limits c.args.connections (entries_in (roster_value c.as_ref-2.result)) c.in_ok-world.world c.serve_on.new.world (listening_text c.args.port)
    (g.O.Sink.held c.args.output.now) (g.O.Sink.held c.listen.new.output) (g.O.Sink.held c.serve_on.new.output) c.in_ok-listener.ensures.printed c.serve_on.ensures.served)
