use Rattle.std.proofs.Common.{◌≡◌, drop}
use Rattle.railway.specs.Passing.{fault_of_speeds}
use Rattle.railway.proofs.passing.fault_of_speeds.Given as goal

abbrev pub invariant-loop-i : goal.invariant-loop-i
invariant-loop-i l = fault_of_speeds l.block l.i (drop l.i l.trains) ≡ fault_of_speeds l.block 0 l.trains
