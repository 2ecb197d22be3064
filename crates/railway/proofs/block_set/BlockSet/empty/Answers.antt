use Rattle.railway.proofs.Sets.{marks-zero}
use Rattle.railway.proofs.block_set.BlockSet.empty.Goals as goal

pub returns : goal.returns
returns c = marks-zero
