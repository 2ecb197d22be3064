use Rattle.std.proofs.Common.{◌≡◌, drop}
use Rattle.railway.specs.Faults.{fault_of_motors}
use Rattle.railway.proofs.checking.fault_of_motors.Given as goal

abbrev pub invariant-loop-i : goal.invariant-loop-i
invariant-loop-i l = fault_of_motors l.decoders l.i (drop l.i l.turnouts) ≡ fault_of_motors l.decoders 0 l.turnouts
