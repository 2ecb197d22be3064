use Rattle.std.proofs.Common.{◌≡◌, ◌+◌, ◌≤◌, ap, ◌∙◌, drop, ◌∷◌, false, true, Some, length, refl, arith}
use Rattle.std.proofs.lemmas.List.{take_all}
use Rattle.refresh_ring.specs.Jobs.{most_jobs, first_of, after_send}
use Rattle.refresh_ring.specs.declared.job.Job.TheVariants.{Request}
use Rattle.refresh_ring.proofs.Queued.{queue-sent, sent_once, fits_again}
use Rattle.refresh_ring.proofs.queue.JobQueue.note_sent.Goals as goal

first : (c : goal.After-self-1) → first_of c.args.self.now ≡ Some (Request c.in-Some-Request.number c.in-Some-Request.closed c.in-Some-Request.on true)
first c = cc

left : (c : goal.After-self-1) → c.self.inside.jobs.items ≡ drop 1 c.args.self.now
left c = c.self.view_is ∙ c.drop_first.ensures.jobs

kept : (c : goal.After-self-1) → c.push_front.new.self.items ≡ Request c.in-Some-Request.number c.in-Some-Request.closed c.in-Some-Request.on false ∷ c.self.inside.jobs.items
kept c =
    let few : length (drop 1 c.args.self.now) + 1 ≤ most_jobs = fits_again c.args.self.now c.in-Some-Request.number c.in-Some-Request.closed c.in-Some-Request.on (first c) c.drop_first.ensures.before in
    let same : length c.self.inside.jobs.items ≡ length (drop 1 c.args.self.now) = ap length (left c) in
    let fits : length (Request c.in-Some-Request.number c.in-Some-Request.closed c.in-Some-Request.on false ∷ c.self.inside.jobs.items) ≤ c.self.inside.jobs.capacity = omega (arith, c.self.invariant.room) in
    ap (λ b. b.items) c.push_front.ensures.items
    ∙ take_all c.self.inside.jobs.capacity (Request c.in-Some-Request.number c.in-Some-Request.closed c.in-Some-Request.on false ∷ c.self.inside.jobs.items) fits

sent : (c : goal.After-self-1) → c.push_front.new.self.items ≡ after_send c.args.self.now
sent c =
    kept c
    ∙ ap (λ jobs. Request c.in-Some-Request.number c.in-Some-Request.closed c.in-Some-Request.on false ∷ jobs) (left c)
    ∙ sent_once c.args.self.now c.in-Some-Request.number c.in-Some-Request.closed c.in-Some-Request.on (first c)

pub invariant_of-self : goal.invariant_of-self
invariant_of-self c = record {
  queue = rw (sent c) (queue-sent c.args.self.now c.drop_first.ensures.before);
  room = ap (λ b. b.capacity) c.push_front.ensures.items ∙ c.self.invariant.room;
  marked = rw (kept c) c.self.invariant.marked;
  counted = ap (λ n. n + 1) c.self.invariant.counted ∙ rw (kept c) refl;
}

pub returns-then-again-clause-jobs : goal.returns-then-again-clause-jobs
returns-then-again-clause-jobs c = sent c

pub returns-then-again-clause-queue : goal.returns-then-again-clause-queue
returns-then-again-clause-queue c = (invariant_of-self c).queue
