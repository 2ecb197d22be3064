use Rattle.std.proofs.Common.{◌≤◌, ◌*◌, ◌+◌, drop}
use Rattle.timeline.specs.Picture.{rows_text}
use Rattle.timeline.proofs.Written.{HasWritten}
use Rattle.timeline.proofs.drawing.write_rows.Given as goal

abbrev pub invariant-loop-row : goal.invariant-loop-row
invariant-loop-row g l = record {
  drawn : HasWritten (rows_text l.turns l.events 52 l.rows) (rows_text l.turns l.events l.base (drop l.row-index l.rows)) (g.O.Write.contents l.fn.output) (g.O.Write.contents l.output);
  most : l.base ≤ 52 + 60 * l.row-index;
  least : 52 ≤ l.base;
}
