-- What contracts see of a schedule, and what messages make of it.
use Rattle.std.specs.Prelude.{ℕ, ◌≡◌, ◌-◌, ◌≤◌, ◌&&◌, Bool, true, false, not, nat_lt, if◌then◌else◌, List, [], ◌∷◌, ◌++◌, length, replicate, slice_set, Option, None, Result, Ok, Err}
use Rattle.refresh_ring.specs.Places.{slot_count, last_place, is_refreshed}
use Rattle.refresh_ring.specs.Jobs.{IsQueue, most_requests, is_queued, requests_in}
use Rattle.refresh_ring.specs.declared.kind.Kind.{Kind}
use Rattle.refresh_ring.specs.declared.job.Job.{Job}
use Rattle.refresh_ring.specs.declared.job.Job.TheVariants.{Place, Request}
use Rattle.refresh_ring.specs.declared.job.Destination.{Destination}
use Rattle.refresh_ring.specs.declared.fault.Full.{Full}

pub record Scheduled : Type 0 where
  -- what waits, in order; a switch request holds whether it is sent once more or twice
  pub jobs : List Job
  -- for each of the slots 1 to 119, whether it is refreshed
  pub slots : List Bool
  -- the place that the ring sent last, 0 at first
  pub cursor : ℕ
  -- where the last packet went, if it went to one decoder
  pub last : Option Destination
  pub prefers_jobs : Bool

pub record IsScheduled (s : Scheduled) : Type 0 where
  pub queue : IsQueue s.jobs
  pub slots : length s.slots ≡ slot_count
  pub cursor : s.cursor ≤ last_place

abbrev pub first_schedule : Scheduled
first_schedule = record { jobs = []; slots = replicate slot_count false; cursor = 0; last = None; prefers_jobs = true }

abbrev pub after_refresh : ℕ → Bool → Scheduled → Scheduled
after_refresh slot on s = record s { slots = slice_set s.slots (slot - 1) on }

-- a changed place of a refreshed slot waits at the end, unless it waits already
abbrev pub with_place : List Bool → ℕ → Kind → List Job → List Job
with_place slots slot kind jobs = if is_refreshed slots slot && not (is_queued slot kind jobs) then jobs ++ Place slot kind ∷ [] else jobs

abbrev pub after_changed : ℕ → Kind → Scheduled → Scheduled
after_changed slot kind s = record s { jobs = with_place s.slots slot kind s.jobs }

-- a switch request waits at the end, to be sent twice, unless as many wait as may
abbrev pub with_request : ℕ → Bool → Bool → List Job → List Job
with_request number closed on jobs = if nat_lt (requests_in jobs) most_requests then jobs ++ Request number closed on true ∷ [] else jobs

abbrev pub after_switch : ℕ → Bool → Bool → Scheduled → Scheduled
after_switch number closed on s = record s { jobs = with_request number closed on s.jobs }

abbrev pub switch_answer : Scheduled → Result (Unit {0}) Full
switch_answer s = if nat_lt (requests_in s.jobs) most_requests then Ok tt else Err (record {})
