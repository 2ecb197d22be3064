use Rattle.std.proofs.Common.{◌≡◌, ◌≤◌, ◌+◌, ◌*◌, ◌++◌, drop, vec_len}
use Rattle.timeline.specs.Rows.{lane_rows}
use Rattle.timeline.proofs.rows.add_lanes.Given as goal

abbrev pub invariant-loop-lane : goal.invariant-loop-lane
invariant-loop-lane l = record {
  rows : l.rows.items ++ lane_rows l.events (drop l.lane-index l.lanes) ≡ l.fn.rows.items ++ lane_rows l.events l.lanes;
  few : vec_len l.rows ≤ vec_len l.fn.rows + 26 * l.lane-index;
}
