use Rattle.std.proofs.Common.{◌≡◌, ◌+◌, drop}
use Rattle.railway.specs.Conflicts.{first_in}
use Rattle.railway.proofs.conflict.next_in.Given as goal

abbrev pub invariant-loop-i : goal.invariant-loop-i
invariant-loop-i l = first_in l.block (l.start + l.i) (drop l.i l.trains) ≡ first_in l.block l.start l.trains
