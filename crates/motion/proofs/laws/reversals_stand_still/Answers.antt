use Rattle.motion.proofs.Reaching.{stood}
use Rattle.motion.proofs.laws.reversals_stand_still.Goals as goal

pub returns : goal.returns
returns c = record { between = λ d r m n h turned. stood d r n m h turned }
