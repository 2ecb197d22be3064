-- What a turn sends, and what it makes of a schedule. The order of sending is the project's own
-- profile.
use Rattle.std.specs.Prelude.{ℕ, ◌+◌, ◌-◌, ◌/◌, ◌==◌, Bool, true, false, if◌then◌else◌, List, Option, Some, None, slice_index}
use Rattle.refresh_ring.specs.Places.{IsPlace, slot_of, kind_of, next_place}
use Rattle.refresh_ring.specs.Jobs.{IsJob, live_jobs, first_of, after_send}
use Rattle.refresh_ring.specs.Scheduled.{Scheduled}
use Rattle.refresh_ring.specs.declared.job.Job.{Job}
use Rattle.refresh_ring.specs.declared.job.Job.TheVariants.{Place, Request}
use Rattle.refresh_ring.specs.declared.job.Destination.{Destination}
use Rattle.refresh_ring.specs.declared.job.Destination.TheVariants.{Loco, Module}
use Rattle.refresh_ring.specs.declared.turn.Candidate.{Candidate}
use Rattle.refresh_ring.specs.declared.turn.Candidate.TheVariants.{FromJobs, FromRing}
use Rattle.refresh_ring.specs.declared.pick.Power.{Power}
use Rattle.refresh_ring.specs.declared.pick.Power.TheVariants.{Off, Running, Paused}
use Rattle.refresh_ring.specs.declared.pick.Pick.{Pick}
use Rattle.refresh_ring.specs.declared.pick.Pick.TheVariants.{Off as OffPick, StopAll, Idle, Place as PlacePick, Switch}

abbrev pub IsCandidate : Candidate → Type 0
IsCandidate (FromJobs job) = IsJob job
IsCandidate (FromRing place) = IsPlace place

-- the preferred one, or else the other
abbrev pub candidate : Bool → Option Job → Option ℕ → Option Candidate
candidate true (Some job) next = Some (FromJobs job)
candidate true None (Some place) = Some (FromRing place)
candidate true None None = None
candidate false job (Some place) = Some (FromRing place)
candidate false (Some job) None = Some (FromJobs job)
candidate false None None = None

-- the address in a slot, of the list of all 119
abbrev pub address_of : List ℕ → ℕ → ℕ
address_of addresses slot = slice_index addresses (slot - 1)

-- four switches make a module (S-9.2.1, basic accessory decoders), counted from 1
abbrev pub module_of : ℕ → ℕ
module_of number = number / 4 + 1

abbrev pub destination_of : List ℕ → Job → Destination
destination_of addresses (Place slot kind) = Loco (address_of addresses slot)
destination_of addresses (Request number closed on again) = Module (module_of number)

abbrev pub pick_of : Job → Pick
pick_of (Place slot kind) = PlacePick slot kind
pick_of (Request number closed on again) = Switch number closed on

abbrev pub same_destination : Destination → Destination → Bool
same_destination (Loco a) (Loco b) = a == b
same_destination (Module a) (Module b) = a == b
same_destination (Loco a) (Module b) = false
same_destination (Module a) (Loco b) = false

abbrev pub is_last : Option Destination → Destination → Bool
is_last None there = false
is_last (Some was) there = same_destination was there

pub record Picked : Type 0 where
  pub state : Scheduled
  pub answer : Pick

-- the preference stays
abbrev pub idle : Scheduled → Picked
idle s = record { state = record s { last = None }; answer = Idle }

abbrev pub job_sent : List ℕ → Scheduled → Job → Picked
job_sent addresses s job = record {
  state = record s { jobs = after_send s.jobs; last = Some (destination_of addresses job); prefers_jobs = false };
  answer = pick_of job;
}

abbrev pub place_sent : List ℕ → Scheduled → ℕ → Picked
place_sent addresses s place = record {
  state = record s { cursor = place; last = Some (Loco (address_of addresses (slot_of place))); prefers_jobs = true };
  answer = PlacePick (slot_of place) (kind_of place);
}

-- the candidate is sent, or idle where the last packet went to the same decoder or nothing is to be
-- sent (S-9.2 gives a decoder 5 ms between two packets to it)
abbrev pub sent : List ℕ → Scheduled → Option Candidate → Picked
sent addresses s None = idle s
sent addresses s (Some (FromJobs job)) = if is_last s.last (destination_of addresses job) then idle s else job_sent addresses s job
sent addresses s (Some (FromRing place)) =
    if is_last s.last (Loco (address_of addresses (slot_of place))) then idle s else place_sent addresses s place

abbrev pub live : Scheduled → Scheduled
live s = record s { jobs = live_jobs s.slots s.jobs }

-- a turn while power runs
unfoldable pub picked : List ℕ → Scheduled → Picked
picked addresses s = sent addresses (live s) (candidate s.prefers_jobs (first_of (live s).jobs) (next_place s.slots s.cursor))

-- a turn: while off nothing is sent and nothing changes, while paused the broadcast stop is sent to
-- all decoders
abbrev pub turned : Power → List ℕ → Scheduled → Picked
turned Off addresses s = record { state = s; answer = OffPick }
turned Running addresses s = picked addresses s
turned Paused addresses s = record { state = record s { last = None }; answer = StopAll }
