use Rattle.std.proofs.Common.{◌≡◌, ◌≤◌, ◌*◌, take}
use Rattle.timeline.specs.Picture.{moment_from, start}
use Rattle.timeline.proofs.drawing.turns_in.Given as goal

abbrev pub invariant-loop-event : goal.invariant-loop-event
invariant-loop-event l = record {
  whole : l.moment ≡ moment_from start (take l.event-index l.events);
  soon : l.moment.turn ≤ 16777216 * l.event-index;
}
