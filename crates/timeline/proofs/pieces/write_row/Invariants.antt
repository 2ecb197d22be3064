use Rattle.std.proofs.Common.{◌≤◌, ◌*◌, ◌++◌, drop, None}
use Rattle.timeline.specs.Picture.{head_text, marks_of, marks_text, start}
use Rattle.timeline.proofs.Written.{HasWritten}
use Rattle.timeline.proofs.pieces.write_row.Given as goal

abbrev pub invariant-loop-event : goal.invariant-loop-event
invariant-loop-event g l = record {
  drawn : HasWritten (head_text l.row l.base ++ marks_text l.row l.base None (marks_of l.row l.turns start l.events)) (marks_text l.row l.base l.last (marks_of l.row l.turns l.moment (drop l.event-index l.events))) (g.O.Write.contents l.fn.output) (g.O.Write.contents l.output);
  soon : l.moment.turn ≤ 16777216 * l.event-index;
}
