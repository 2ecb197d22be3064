use Rattle.railway.proofs.Running.{in-derailed, in-derails, in-stops}
use Rattle.railway.proofs.laws.trains_stop.Goals as goal

pub returns-clause-buffer_stop : goal.returns-clause-buffer_stop
returns-clause-buffer_stop c network train micros nodes forward ahead place is h rails only way stop less = in-stops network forward micros nodes train ahead place is h rails only way stop less

pub returns-clause-against : goal.returns-clause-against
returns-clause-against c network train micros nodes forward ahead place is h rails only way against less = in-derails network forward micros nodes train ahead place is h rails only way against less

pub returns-clause-derailed : goal.returns-clause-derailed
returns-clause-derailed c network train micros nodes h = in-derailed network micros nodes train h
