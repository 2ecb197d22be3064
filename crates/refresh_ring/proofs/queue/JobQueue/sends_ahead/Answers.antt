use Rattle.std.proofs.Common.{◌≡◌, ◌+◌, ap, arith}
use Rattle.refresh_ring.specs.Jobs.{sends_in, sends_of}
use Rattle.refresh_ring.proofs.Queued.{few_sends}
use Rattle.refresh_ring.proofs.queue.JobQueue.sends_ahead.Goals as goal

pub overflow_add-ahead : goal.overflow_add-ahead
overflow_add-ahead c =
    let here : sends_in c.loop-job.job-iterator ≡ sends_of c.in-Some.job.now + sends_in c.next.new.self = ap sends_in c.in-Some.ensures.steps in
    let all : c.loop-job.ahead + sends_in c.loop-job.job-iterator ≡ sends_in c.self.inside.jobs.items = cc in
    omega (arith, few_sends c.self.inside.jobs.items c.self.invariant.queue, here, all, c.sends-ahead.ensures)
