-- How many running turns are left, at most, until a packet is sent (the four-turn argument).
-- Messages change none of it.
use Rattle.std.specs.Prelude.{ℕ, ◌+◌, ◌-◌, ◌*◌, Bool, true, false, not, nat_lt, min, if◌then◌else◌, List, Option, Some, None}
use Rattle.std.proofs.Common.{zero, suc}
use Rattle.std.specs.Option.{option_map}
use Rattle.refresh_ring.specs.Places.{last_place, slot_of, place_of}
use Rattle.refresh_ring.specs.Jobs.{most_requests, sends_ahead, sends_in}
use Rattle.refresh_ring.specs.Scheduled.{Scheduled}
use Rattle.refresh_ring.specs.declared.kind.Kind.{Kind}
use Rattle.refresh_ring.specs.declared.job.Job.{Job}
use Rattle.refresh_ring.specs.declared.job.Destination.{Destination}

-- how many of the numbers from 1 to n pass the test
unfoldable pub count_to : (ℕ → Bool) → ℕ → ℕ
count_to test zero = 0
count_to test (suc n) = count_to test n + (if test (suc n) then 1 else 0)

-- how many places up to this one belong to slots that are ever refreshed
abbrev pub places_to : (ℕ → Bool) → ℕ → ℕ
places_to ever place = count_to (λ p. ever (slot_of p)) place

-- how many of them follow the cursor round the ring, up to and with this one
unfoldable pub places_left : (ℕ → Bool) → ℕ → ℕ → ℕ
places_left ever place cursor =
    if nat_lt cursor place then places_to ever place - places_to ever cursor
    else places_to ever last_place + places_to ever place - places_to ever cursor

-- turns until the ring sends, at most, where it has a place to send
abbrev pub ring_wait : Bool → Option Destination → ℕ
ring_wait false None = 1
ring_wait false (Some there) = 2
ring_wait true None = 3
ring_wait true (Some there) = 4

-- turns until a job is sent, at most, where one waits
abbrev pub jobs_wait : Bool → Option Destination → ℕ
jobs_wait prefers_jobs last = ring_wait (not prefers_jobs) last

unfoldable pub turns_from : (ℕ → Bool) → ℕ → ℕ → Option Destination → Bool → ℕ
turns_from ever place cursor last prefers_jobs = 4 * (places_left ever place (min cursor last_place) - 1) + ring_wait prefers_jobs last

-- turns until the ring sends this packet, where no slots but these are ever refreshed
abbrev pub turns_left : (ℕ → Bool) → ℕ → Kind → Scheduled → ℕ
turns_left ever slot kind s = turns_from ever (place_of slot kind) s.cursor s.last s.prefers_jobs

-- turns until a place that waits is sent as a job
abbrev pub turns_ahead : ℕ → Kind → Scheduled → Option ℕ
turns_ahead slot kind s = option_map (λ n. 4 * n + jobs_wait s.prefers_jobs s.last) (sends_ahead slot kind s.jobs)

-- turns until all of these jobs, which are at the front, were sent, and 4 more at most
abbrev pub turns_for : List Job → Scheduled → ℕ
turns_for jobs s = 4 * sends_in jobs + jobs_wait s.prefers_jobs s.last

-- turns that empty any queue: each place is sent once, and each switch request twice
abbrev pub turns_to_empty : ℕ
turns_to_empty = 4 * (last_place + 2 * most_requests)
