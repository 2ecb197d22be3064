use Rattle.std.proofs.Common.{Some, true}
use Rattle.programmer.specs.Requests.{task_of}
use Rattle.programming_track.specs.Outcomes.{read_failed, write_failed}
use Rattle.programming_track.proofs.Begins.{read_completes, write_completes}
use Rattle.programming_track.proofs.Sequences.{failing_reads, failing_writes}
use Rattle.programming_track.proofs.laws.failures_are_reported.Goals as goal

pub returns-clause-read : goal.returns-clause-read
returns-clause-read c = λ m d last e. read_completes m last true (Some d) (read_failed (task_of m) d) e (failing_reads (task_of m) d)

pub returns-clause-write : goal.returns-clause-write
returns-clause-write c = λ m d last e h. write_completes m last true (Some d) (write_failed (task_of m) d) e (failing_writes (task_of m) d h)
