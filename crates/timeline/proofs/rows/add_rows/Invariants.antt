use Rattle.std.proofs.Common.{◌≡◌, ◌≤◌, ◌+◌, ◌++◌, drop, vec_len}
use Rattle.timeline.specs.Rows.{rows_in}
use Rattle.timeline.proofs.rows.add_rows.Given as goal

abbrev pub invariant-loop-kind : goal.invariant-loop-kind
invariant-loop-kind l = record {
  rows : l.rows.items ++ rows_in l.lane l.events (drop l.kind-index l.kinds) ≡ l.fn.rows.items ++ rows_in l.lane l.events l.kinds;
  few : vec_len l.rows ≤ vec_len l.fn.rows + l.kind-index;
}
