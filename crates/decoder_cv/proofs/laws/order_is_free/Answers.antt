use Rattle.decoder_cv.proofs.Pairs.{listed-IsPermutation}
use Rattle.decoder_cv.proofs.laws.order_is_free.Goals as goal

pub returns : goal.returns
returns c = listed-IsPermutation
