use Rattle.std.proofs.Common.{◌≡◌, ◌≤◌, take, vec_len}
use Rattle.timeline.specs.Rows.{lanes_of}
use Rattle.timeline.proofs.rows.lanes_of.Given as goal

abbrev pub invariant-loop-event : goal.invariant-loop-event
invariant-loop-event l = record {
  lanes : l.lanes.items ≡ lanes_of (take l.event-index l.events);
  few : vec_len l.lanes ≤ l.event-index;
}
