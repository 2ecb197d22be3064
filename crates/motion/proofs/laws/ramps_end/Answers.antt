use Rattle.motion.proofs.Ramps.{ramp-ends}
use Rattle.motion.proofs.laws.ramps_end.Goals as goal

pub returns : goal.returns
returns c = ramp-ends
