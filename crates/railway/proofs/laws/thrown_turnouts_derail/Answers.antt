use Rattle.railway.proofs.Derailing.{derailed-named, others-stay, thrown-derails, thrown-stands}
use Rattle.railway.proofs.laws.thrown_turnouts_derail.Goals as goal

pub returns-clause-thrown : goal.returns-clause-thrown
returns-clause-thrown c = thrown-derails

pub returns-clause-stands : goal.returns-clause-stands
returns-clause-stands c = thrown-stands

pub returns-clause-others : goal.returns-clause-others
returns-clause-others c = others-stay

pub returns-clause-turnout : goal.returns-clause-turnout
returns-clause-turnout c network train power micros nodes rails = derailed-named power network micros nodes train rails
