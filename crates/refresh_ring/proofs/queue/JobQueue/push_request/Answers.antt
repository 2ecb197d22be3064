use Rattle.std.proofs.Common.{◌≡◌, ◌++◌, ◌∷◌, [], ap, ◌∙◌, ◌+◌, true}
use Rattle.refresh_ring.specs.Jobs.{IsQueue}
use Rattle.refresh_ring.specs.declared.job.Job.TheVariants.{Request}
use Rattle.refresh_ring.proofs.Queued.{queue-request, pushed}
use Rattle.refresh_ring.proofs.Marks.{marked-request, counted-request}
use Rattle.refresh_ring.proofs.queue.JobQueue.push_request.Goals as goal

more : (c : goal.After-self-1) → IsQueue (c.self.inside.jobs.items ++ Request c.args.number c.args.closed c.args.on true ∷ [])
more c = queue-request c.self.inside.jobs.items c.args.number c.args.closed c.args.on c.self.invariant.queue c.requires.number (rw c.self.view_is c.requires.room)

items : (c : goal.After-self-1) → c.push_back.new.self.items ≡ c.self.inside.jobs.items ++ Request c.args.number c.args.closed c.args.on true ∷ []
items c = ap (λ b. b.items) c.push_back.ensures.items ∙ pushed (c.self.inside.jobs.items ++ Request c.args.number c.args.closed c.args.on true ∷ []) c.self.inside.jobs.capacity c.self.invariant.room (more c)

pub invariant_of-self : goal.invariant_of-self
invariant_of-self c = record {
  queue = rw (items c) (more c);
  room = ap (λ b. b.capacity) c.push_back.ensures.items ∙ c.self.invariant.room;
  marked = rw (items c) (marked-request c.self.inside.waiting c.self.inside.jobs.items c.args.number c.args.closed c.args.on true c.self.invariant.marked);
  counted = ap (λ n. n + 1) c.self.invariant.counted ∙ rw (items c) (counted-request c.self.inside.jobs.items c.args.number c.args.closed c.args.on true);
}

pub returns-clause-jobs : goal.returns-clause-jobs
returns-clause-jobs c = rw (← c.self.view_is) (items c)

pub returns-clause-queue : goal.returns-clause-queue
returns-clause-queue c = (invariant_of-self c).queue
