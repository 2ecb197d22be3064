use Rattle.std.proofs.Common.{◌≡◌, drop}
use Rattle.railway.specs.Ends.{named_twice}
use Rattle.railway.proofs.checking.first_twice.Given as goal

abbrev pub invariant-loop-i : goal.invariant-loop-i
invariant-loop-i l = named_twice (drop l.i l.ends) ≡ named_twice l.ends
