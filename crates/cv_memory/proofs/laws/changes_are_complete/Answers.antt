use Rattle.cv_memory.proofs.Changing.{applies, unchanged}
use Rattle.cv_memory.proofs.laws.changes_are_complete.Goals as goal

pub returns-clause-values : goal.returns-clause-values
returns-clause-values c = applies

pub returns-clause-unchanged : goal.returns-clause-unchanged
returns-clause-unchanged c = unchanged
