use Rattle.motion.proofs.Steps.{after-add, way-add, way_in-add}
use Rattle.motion.proofs.Reaching.{both}
use Rattle.motion.proofs.laws.times_add_up.Goals as goal

pub returns : goal.returns
returns c = record { velocity = after-add; way = way-add; way_in = way_in-add; both = both }
