use Rattle.decoder_cv.proofs.Pairs.{listed-cons, listed-filter}
use Rattle.decoder_cv.proofs.laws.others_have_no_effect.Goals as goal

pub returns-clause-left_out : goal.returns-clause-left_out
returns-clause-left_out c = listed-filter

pub returns-clause-put_in : goal.returns-clause-put_in
returns-clause-put_in c = listed-cons
