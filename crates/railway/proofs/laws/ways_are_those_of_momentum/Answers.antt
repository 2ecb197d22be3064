use Rattle.railway.proofs.Running.{in-reaches, in-velocity}
use Rattle.railway.proofs.laws.ways_are_those_of_momentum.Goals as goal

pub returns-clause-goes : goal.returns-clause-goes
returns-clause-goes c network train micros nodes forward place is h rails only way = (in-reaches network forward micros nodes train place is h rails only way).0

pub returns-clause-rails : goal.returns-clause-rails
returns-clause-rails c network train micros nodes forward place is h rails only way = (in-reaches network forward micros nodes train place is h rails only way).1

pub returns-clause-velocity : goal.returns-clause-velocity
returns-clause-velocity c network train micros nodes h rails = in-velocity network micros nodes train rails
