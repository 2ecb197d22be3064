use Rattle.std.proofs.Common.{◌≡◌, drop}
use Rattle.railway.specs.Faults.{fault_of_turnouts}
use Rattle.railway.proofs.checking.fault_of_turnouts.Given as goal

abbrev pub invariant-loop-i : goal.invariant-loop-i
invariant-loop-i l = fault_of_turnouts l.blocks l.i (drop l.i l.turnouts) ≡ fault_of_turnouts l.blocks 0 l.turnouts
