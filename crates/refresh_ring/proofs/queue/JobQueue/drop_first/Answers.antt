use Rattle.std.proofs.Common.{◌≡◌, ap, sym, ◌∙◌, drop, slice_get, Some}
use Rattle.refresh_ring.specs.declared.job.Job.TheVariants.{Place}
use Rattle.refresh_ring.proofs.Queued.{queue-drop}
use Rattle.refresh_ring.proofs.Marks.{marked-drop, counted-drop}
use Rattle.refresh_ring.proofs.queue.JobQueue.drop_first.Goals as goal

items : (c : goal.After-set) → c.pop_front-job.new.self.items ≡ drop 1 c.self.inside.jobs.items
items c = ap (λ b. b.items) c.pop_front-job.ensures.items

first : (c : goal.After-set) → slice_get c.self.inside.jobs.items 0 ≡ Some (Place c.in-Some-Place.slot c.in-Some-Place.kind)
first c =
    let some : slice_get c.self.inside.jobs.items 0 ≡ Some c.in-Some-Place.field-0 = sym c.pop_front-job.ensures.value ∙ c.in-Some-Place.is in
    let job : c.in-Some-Place.field-0 ≡ Place c.in-Some-Place.slot c.in-Some-Place.kind = rw c.in-Some-Place.is at c.in-Some-Place.field-0-is in
    some ∙ ap Some job

pub invariant_of-self : goal.invariant_of-self
invariant_of-self c = record {
  queue = rw (items c) (queue-drop c.self.inside.jobs.items c.self.invariant.queue);
  room = ap (λ b. b.capacity) c.pop_front-job.ensures.items ∙ c.self.invariant.room;
  marked = rw (items c)
      (marked-drop c.self.inside.waiting c.set.new.self c.self.inside.jobs.items c.place_of.result c.in-Some-Place.slot c.in-Some-Place.kind c.place_of.ensures.place (first c) c.self.invariant.queue c.self.invariant.marked c.set.ensures);
  counted = c.self.invariant.counted ∙ rw (items c) (sym (counted-drop c.self.inside.jobs.items c.in-Some-Place.slot c.in-Some-Place.kind (first c)));
}

pub returns-in-Some-Place-clause-queue : goal.returns-in-Some-Place-clause-queue
returns-in-Some-Place-clause-queue c = (invariant_of-self c).queue
