use Rattle.std.proofs.Common.{refl}
use Rattle.programming_track.specs.Outcomes.{read, write_sent}
use Rattle.programming_track.proofs.Short.{short}
use Rattle.programming_track.proofs.laws.tasks_are_short.Goals as goal

pub returns-clause-packet : goal.returns-clause-packet
returns-clause-packet c = short c.durations_are_bounded.ensures.longest

pub returns-clause-read : goal.returns-clause-read
returns-clause-read c = λ task d. (refl, short c.durations_are_bounded.ensures.longest (read task d).sent)

pub returns-clause-write : goal.returns-clause-write
returns-clause-write c = λ task. (refl, short c.durations_are_bounded.ensures.longest (write_sent task))
