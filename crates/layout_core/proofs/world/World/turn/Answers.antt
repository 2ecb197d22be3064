use Rattle.std.proofs.Common.{◌∙◌, ap, sym}
use Rattle.station_core.specs.Station.{sent}
use Rattle.layout_core.proofs.world.World.turn.Goals as goal

pub returns-in-Some-clause-station : goal.returns-in-Some-clause-station
returns-in-Some-clause-station c = c.turn.ensures.state ∙ sym (c.calls_are_moves.ensures.after_turn c.args.self.now.station)

pub returns-in-Some-clause-answer : goal.returns-in-Some-clause-answer
returns-in-Some-clause-answer c = ap sent (sym c.in-Some.is ∙ c.turn.ensures.packet) ∙ sym (c.calls_are_moves.ensures.to_turn c.args.self.now.station)

pub returns-in-Some-clause-nodes : goal.returns-in-Some-clause-nodes
returns-in-Some-clause-nodes c = record { count = c.hear.ensures.count; each = c.hear.ensures.each }

pub returns-in-None-clause-station : goal.returns-in-None-clause-station
returns-in-None-clause-station c = c.turn.ensures.state ∙ sym (c.calls_are_moves.ensures.after_turn c.args.self.now.station)

pub returns-in-None-clause-answer : goal.returns-in-None-clause-answer
returns-in-None-clause-answer c = ap sent (sym c.in-None.is ∙ c.turn.ensures.packet) ∙ sym (c.calls_are_moves.ensures.to_turn c.args.self.now.station)
