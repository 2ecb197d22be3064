use Rattle.decoder_cv.proofs.Length.{listed-long}
use Rattle.decoder_cv.proofs.laws.long_lists_are_refused.Goals as goal

pub returns : goal.returns
returns c = listed-long
