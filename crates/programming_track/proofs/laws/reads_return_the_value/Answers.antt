use Rattle.std.proofs.Common.{Some, false}
use Rattle.programmer.specs.Requests.{task_of}
use Rattle.programming_track.specs.Outcomes.{read}
use Rattle.programming_track.proofs.Begins.{read_completes}
use Rattle.programming_track.proofs.Sequences.{reads}
use Rattle.programming_track.proofs.laws.reads_return_the_value.Goals as goal

pub returns : goal.returns
returns c = λ m d last e below. read_completes m last false (Some d) (read (task_of m) d) e (reads (task_of m) d below)
