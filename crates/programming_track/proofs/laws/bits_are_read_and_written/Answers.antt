use Rattle.std.proofs.Common.{Some, false}
use Rattle.programmer.specs.Requests.{task_of}
use Rattle.programming_track.specs.Outcomes.{bit_read, bit_refused, bit_written}
use Rattle.programming_track.proofs.Begins.{bit_read_completes, bit_write_completes}
use Rattle.programming_track.proofs.Sequences.{bit_is_refused, bit_reads, bit_writes}
use Rattle.programming_track.proofs.laws.bits_are_read_and_written.Goals as goal

pub returns-clause-read : goal.returns-clause-read
returns-clause-read c = λ m d last e. bit_read_completes m last false (Some d) (bit_read (task_of m) d) e (bit_reads (task_of m) d)

pub returns-clause-stored : goal.returns-clause-stored
returns-clause-stored c = λ m d last e h there. bit_write_completes m last false (Some d) (bit_written (task_of m) d) e (bit_writes (task_of m) d there h)

pub returns-clause-read_only : goal.returns-clause-read_only
returns-clause-read_only c = λ m d last e h. bit_write_completes m last false (Some d) (bit_refused (task_of m) d) e (bit_is_refused (task_of m) d h)
