use Rattle.std.proofs.Common.{◌≡◌, ap, [], refl}
use Rattle.refresh_ring.proofs.Queued.{queue-empty}
use Rattle.refresh_ring.proofs.Marks.{marked-empty}
use Rattle.refresh_ring.proofs.queue.JobQueue.new.Goals as goal

pub invariant_of-result : goal.invariant_of-result
invariant_of-result c =
    let empty : c.in-Ok.jobs.items ≡ [] = ap (λ b. b.items) c.in-Ok.ensures in
    record {
      queue = rw empty queue-empty;
      room = ap (λ b. b.capacity) c.in-Ok.ensures;
      marked = rw (empty, c.empty.ensures) marked-empty;
      counted = rw empty refl;
    }

pub returns-in-Ok-clause-queue : goal.returns-in-Ok-clause-queue
returns-in-Ok-clause-queue c = (invariant_of-result c).queue
