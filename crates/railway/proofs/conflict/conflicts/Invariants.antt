use Rattle.std.proofs.Common.{◌≡◌, ◌≤◌, ◌++◌, length, drop}
use Rattle.railway.specs.Conflicts.{conflicts_from}
use Rattle.railway.proofs.conflict.conflicts.Given as goal

abbrev pub invariant-loop-i : goal.invariant-loop-i
invariant-loop-i l = record {
  found : l.found.items ++ conflicts_from l.trains l.i (drop l.i l.blocks) ≡ conflicts_from l.trains 0 l.blocks;
  few : length l.found.items ≤ l.i;
}
