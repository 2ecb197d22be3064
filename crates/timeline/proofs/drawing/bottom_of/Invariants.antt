use Rattle.std.proofs.Common.{◌≡◌, ◌≤◌, ◌*◌, ◌+◌, take}
use Rattle.timeline.specs.Picture.{bottom_of}
use Rattle.timeline.proofs.drawing.bottom_of.Given as goal

abbrev pub invariant-loop-row : goal.invariant-loop-row
invariant-loop-row l = record {
  whole : l.bottom ≡ bottom_of 52 (take l.row-index l.rows);
  most : l.bottom ≤ 52 + 60 * l.row-index;
}
