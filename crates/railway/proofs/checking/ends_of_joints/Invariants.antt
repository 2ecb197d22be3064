use Rattle.std.proofs.Common.{◌≡◌, ◌≤◌, ◌*◌, ◌++◌, length, drop}
use Rattle.railway.specs.Ends.{ends_of_joints}
use Rattle.railway.proofs.checking.ends_of_joints.Given as goal

abbrev pub invariant-loop-joint : goal.invariant-loop-joint
invariant-loop-joint l = record {
  ends : l.ends.items ++ ends_of_joints (drop l.joint-index l.joints) ≡ ends_of_joints l.joints;
  few : length l.ends.items ≤ 2 * l.joint-index;
}
