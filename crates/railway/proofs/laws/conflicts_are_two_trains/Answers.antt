use Rattle.railway.proofs.Meeting.{conflict-found, conflict-is}
use Rattle.railway.proofs.laws.conflicts_are_two_trains.Goals as goal

pub returns-clause-reported : goal.returns-clause-reported
returns-clause-reported c = conflict-is

pub returns-clause-found : goal.returns-clause-found
returns-clause-found c = conflict-found
