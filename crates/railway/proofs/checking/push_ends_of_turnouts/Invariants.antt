use Rattle.std.proofs.Common.{◌≡◌, ◌≤◌, ◌*◌, ◌+◌, ◌++◌, length, drop}
use Rattle.railway.specs.Ends.{ends_of_turnouts}
use Rattle.railway.proofs.checking.push_ends_of_turnouts.Given as goal

abbrev pub invariant-loop-turnout : goal.invariant-loop-turnout
invariant-loop-turnout l = record {
  ends : l.ends.items ++ ends_of_turnouts (drop l.turnout-index l.turnouts) ≡ l.fn.ends.items ++ ends_of_turnouts l.turnouts;
  few : length l.ends.items ≤ length l.fn.ends.items + 3 * l.turnout-index;
}
