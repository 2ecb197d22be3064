use Rattle.std.proofs.Common.{◌≡◌, ◌++◌, ◌∷◌, [], ap, ◌∙◌}
use Rattle.refresh_ring.specs.Jobs.{IsQueue}
use Rattle.refresh_ring.specs.declared.job.Job.TheVariants.{Place}
use Rattle.refresh_ring.proofs.Queued.{queue-place, pushed}
use Rattle.refresh_ring.proofs.Marks.{marked-place, counted-place}
use Rattle.refresh_ring.proofs.queue.JobQueue.push_place.Goals as goal

more : (c : goal.After-set) → IsQueue (c.self.inside.jobs.items ++ Place c.args.slot c.args.kind ∷ [])
more c = queue-place c.self.inside.jobs.items c.args.slot c.args.kind c.self.invariant.queue c.requires.slot (rw c.self.view_is c.requires.absent)

items : (c : goal.After-set) → c.push_back.new.self.items ≡ c.self.inside.jobs.items ++ Place c.args.slot c.args.kind ∷ []
items c = ap (λ b. b.items) c.push_back.ensures.items ∙ pushed (c.self.inside.jobs.items ++ Place c.args.slot c.args.kind ∷ []) c.self.inside.jobs.capacity c.self.invariant.room (more c)

pub invariant_of-self : goal.invariant_of-self
invariant_of-self c = record {
  queue = rw (items c) (more c);
  room = ap (λ b. b.capacity) c.push_back.ensures.items ∙ c.self.invariant.room;
  marked = rw (items c) (marked-place c.self.inside.waiting c.set.new.self c.self.inside.jobs.items c.place_of.result c.args.slot c.args.kind c.place_of.ensures.place c.requires.slot c.self.invariant.marked c.set.ensures);
  counted = c.self.invariant.counted ∙ rw (items c) (counted-place c.self.inside.jobs.items c.args.slot c.args.kind);
}

pub returns-clause-jobs : goal.returns-clause-jobs
returns-clause-jobs c = rw (← c.self.view_is) (items c)

pub returns-clause-queue : goal.returns-clause-queue
returns-clause-queue c = (invariant_of-self c).queue
