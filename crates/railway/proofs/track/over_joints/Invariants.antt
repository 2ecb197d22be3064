use Rattle.std.proofs.Common.{◌≡◌, drop}
use Rattle.railway.specs.Network.{partner}
use Rattle.railway.proofs.track.over_joints.Given as goal

-- the joints so far do not have the end
abbrev pub invariant-loop-joint : goal.invariant-loop-joint
invariant-loop-joint l = partner (drop l.joint-index l.joints) l.end ≡ partner l.joints l.end
