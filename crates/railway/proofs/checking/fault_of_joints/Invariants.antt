use Rattle.std.proofs.Common.{◌≡◌, drop}
use Rattle.railway.specs.Faults.{fault_of_joints}
use Rattle.railway.proofs.checking.fault_of_joints.Given as goal

abbrev pub invariant-loop-i : goal.invariant-loop-i
invariant-loop-i l = fault_of_joints l.blocks l.i (drop l.i l.joints) ≡ fault_of_joints l.blocks 0 l.joints
