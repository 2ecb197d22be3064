use Rattle.std.proofs.Common.{◌≡◌, length}
use Rattle.refresh_ring.specs.Jobs.{live_jobs}
use Rattle.refresh_ring.proofs.queue.JobQueue.first_live.Given as goal

-- only stale jobs were dropped
abbrev pub invariant-loop-job : goal.invariant-loop-job
invariant-loop-job g l = live_jobs (g.R.Ring.slots l.ring) l.self ≡ live_jobs (g.R.Ring.slots l.ring) l.initial.self

abbrev pub decreases-loop-job : goal.decreases-loop-job
decreases-loop-job g l = length l.self
