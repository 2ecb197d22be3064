-- Which places wait, by a mark for each, and how many switch requests do. No public clause cites
-- these.
use Rattle.std.specs.Prelude.{ℕ, ◌≡◌, List}
use Rattle.refresh_ring.specs.Places.{IsSlot, place_of}
use Rattle.refresh_ring.specs.Jobs.{IsQueue, most_jobs, is_queued, requests_in}
use Rattle.refresh_ring.specs.Words.{is_in}
use Rattle.refresh_ring.specs.declared.kind.Kind.{Kind}
use Rattle.refresh_ring.specs.declared.job.Job.{Job}

-- exactly the places that wait are marked
abbrev pub IsMarked : List ℕ → List Job → Type 0
IsMarked marks jobs = (slot : ℕ) (kind : Kind) → IsSlot slot → is_in marks (place_of slot kind) ≡ is_queued slot kind jobs

-- a queue is in a buffer with room for each of its jobs, its places are marked, and its switch
-- requests are counted
pub record IsBuffered (jobs : List Job) (capacity : ℕ) (marks : List ℕ) (requests : ℕ) : Type 0 where
  pub queue : IsQueue jobs
  pub room : capacity ≡ most_jobs
  pub marked : IsMarked marks jobs
  pub counted : requests ≡ requests_in jobs
