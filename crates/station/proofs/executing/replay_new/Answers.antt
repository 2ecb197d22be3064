use Rattle.std.proofs.Common.{rules}
use Rattle.station.specs.Layout.{roster_value}
use Rattle.station.proofs.Running.{not_replayed_new, replayed_new}
use Rattle.station.proofs.executing.replay_new.Goals as goal

pub returns-clause-done : goal.returns-clause-done
returns-clause-done g c =
    replayed_new c.replay.result c.args.lines c.args.roster c.in_ok-roster.roster (roster_value c.as_ref.result) (roster_value c.as_ref-2.result) c.in_ok-world.world c.replay.new.world
    (g.I.Input.left c.args.input.now) (g.I.Input.left c.replay.new.input) (g.O.Sink.held c.args.output.now) (g.O.Sink.held c.replay.new.output)
    (search rules) (search rules) c.in_ok-roster.ensures.roster c.in_ok-world.ensures.new c.replay.ensures.printed

pub returns-clause-fails : goal.returns-clause-fails
returns-clause-fails g c =
    not_replayed_new c.replay.result c.args.lines c.args.roster c.in_ok-roster.roster (roster_value c.as_ref.result) c.in_ok-world.world
    (g.I.Input.left c.args.input.now) (g.I.Input.left c.replay.new.input) (g.I.Input.failed c.replay.new.input)
    (search rules) c.in_ok-roster.ensures.roster c.in_ok-world.ensures.new c.replay.ensures.fault
