use Rattle.std.proofs.Common.{Some, false}
use Rattle.programmer.specs.Requests.{task_of}
use Rattle.programming_track.specs.Outcomes.{refused, reset, written}
use Rattle.programming_track.proofs.Begins.{write_completes}
use Rattle.programming_track.proofs.Sequences.{is_refused, resets, writes}
use Rattle.programming_track.proofs.laws.writes_store_the_value.Goals as goal

pub returns-clause-stored : goal.returns-clause-stored
returns-clause-stored c = λ m d last e h. write_completes m last false (Some d) (written (task_of m) d) e (writes (task_of m) d h)

pub returns-clause-read_only : goal.returns-clause-read_only
returns-clause-read_only c = λ m d last e h no_reset. write_completes m last false (Some d) (refused (task_of m) d) e (is_refused (task_of m) d h no_reset)

pub returns-clause-reset : goal.returns-clause-reset
returns-clause-reset c = λ m d last e h. write_completes m last false (Some d) (reset (task_of m) d) e (resets (task_of m) d h)
