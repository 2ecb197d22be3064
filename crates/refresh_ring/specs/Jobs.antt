-- Jobs that wait, in order: places and switch requests (the project's own profile).
use Rattle.std.specs.Prelude.{ℕ, ◌+◌, ◌≤◌, ◌==◌, ◌&&◌, Bool, true, false, if◌then◌else◌, List, [], ◌∷◌, Option, Some, None, nat_eq}
use Rattle.std.specs.List.{AllByRecursion, IsDistinct, list_any}
use Rattle.std.specs.Option.{option_map}
use Rattle.dcc_packet.specs.Sent.{last_switch}
use Rattle.refresh_ring.specs.Places.{IsSlot, last_place, place_of, number_of, is_refreshed}
use Rattle.refresh_ring.specs.declared.kind.Kind.{Kind}
use Rattle.refresh_ring.specs.declared.job.Job.{Job}
use Rattle.refresh_ring.specs.declared.job.Job.TheVariants.{Place, Request}

-- a job's slot is one of the 119, and its switch one that a packet can name
abbrev pub IsJob : Job → Type 0
IsJob (Place slot kind) = IsSlot slot
IsJob (Request number closed on again) = number ≤ last_switch

abbrev pub is_place : ℕ → Kind → Job → Bool
is_place slot kind (Place other other_kind) = (other == slot) && (number_of other_kind == number_of kind)
is_place slot kind (Request number closed on again) = false

-- whether a place waits
abbrev pub is_queued : ℕ → Kind → List Job → Bool
is_queued slot kind jobs = list_any (is_place slot kind) jobs

-- the places that wait
abbrev pub places_in : List Job → List ℕ
places_in [] = []
places_in (Place slot kind ∷ jobs) = place_of slot kind ∷ places_in jobs
places_in (Request number closed on again ∷ jobs) = places_in jobs

-- how many switch requests wait
abbrev pub requests_in : List Job → ℕ
requests_in [] = 0
requests_in (Place slot kind ∷ jobs) = requests_in jobs
requests_in (Request number closed on again ∷ jobs) = requests_in jobs + 1

-- how often a job is still sent
abbrev pub sends_of : Job → ℕ
sends_of (Place slot kind) = 1
sends_of (Request number closed on true) = 2
sends_of (Request number closed on false) = 1

abbrev pub sends_in : List Job → ℕ
sends_in [] = 0
sends_in (job ∷ jobs) = sends_of job + sends_in jobs

-- the sends that wait ahead of a place, where the place waits
abbrev pub sends_ahead : ℕ → Kind → List Job → Option ℕ
sends_ahead slot kind [] = None
sends_ahead slot kind (job ∷ jobs) =
    if is_place slot kind job then Some 0 else option_map (λ n. sends_of job + n) (sends_ahead slot kind jobs)

-- at most 32 switch requests wait
abbrev pub most_requests : ℕ
most_requests = 32

-- each place and each of these requests
abbrev pub most_jobs : ℕ
most_jobs = last_place + most_requests

-- what a queue holds: legal jobs, each place at most once, and no more switch requests than may
-- wait
pub record IsQueue (jobs : List Job) : Type 0 where
  pub legal : AllByRecursion IsJob jobs
  pub once : IsDistinct nat_eq (places_in jobs)
  pub few : requests_in jobs ≤ most_requests

-- a switch request waits always, a place while its slot is refreshed
abbrev pub is_live : List Bool → Job → Bool
is_live slots (Place slot kind) = is_refreshed slots slot
is_live slots (Request number closed on again) = true

-- without the jobs at the head whose slot is not refreshed
abbrev pub live_jobs : List Bool → List Job → List Job
live_jobs slots [] = []
live_jobs slots (job ∷ jobs) = if is_live slots job then job ∷ jobs else live_jobs slots jobs

abbrev pub first_of : List Job → Option Job
first_of [] = None
first_of (job ∷ jobs) = Some job

-- the jobs after the first one was sent: a switch request is sent twice
abbrev pub after_send : List Job → List Job
after_send [] = []
after_send (Place slot kind ∷ rest) = rest
after_send (Request number closed on true ∷ rest) = Request number closed on false ∷ rest
after_send (Request number closed on false ∷ rest) = rest
