use Rattle.railway.proofs.Placing.{lengths-stay}
use Rattle.railway.proofs.laws.trains_keep_their_lengths.Goals as goal

pub returns : goal.returns
returns c = record { length = lengths-stay }
