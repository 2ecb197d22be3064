use Rattle.programming_track.proofs.Times.{adds, ends_add}
use Rattle.programming_track.proofs.laws.time_adds_up.Goals as goal

pub returns-clause-state : goal.returns-clause-state
returns-clause-state c = adds

pub returns-clause-ends : goal.returns-clause-ends
returns-clause-ends c = ends_add
