use Rattle.std.proofs.Common.{None, false}
use Rattle.programmer.specs.Requests.{task_of}
use Rattle.programming_track.specs.Outcomes.{empty}
use Rattle.programming_track.proofs.Begins.{task_completes}
use Rattle.programming_track.proofs.Sequences.{empties}
use Rattle.programming_track.proofs.laws.without_a_decoder.Goals as goal

pub returns : goal.returns
returns c = λ m last e. task_completes m last false None (empty (task_of m)) e (empties (task_of m))
