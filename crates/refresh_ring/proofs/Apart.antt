-- No two neighbouring packets go to one decoder, and each is due.
use Rattle.std.proofs.Common.{◌≡◌, ℕ, Bool, true, false, if◌then◌else◌, List, [], ◌∷◌, Option, Some, None, MatchOption, min, refl, sym, ◌∙◌, ap, arith}
use Rattle.std.specs.List.{Contains}
use Rattle.std.proofs.lemmas.Bool.{cond_both}
use Rattle.refresh_ring.specs.Places.{last_place, is_place_on, slot_of, next_place}
use Rattle.refresh_ring.specs.Jobs.{is_live, live_jobs, first_of}
use Rattle.refresh_ring.specs.Scheduled.{Scheduled}
use Rattle.refresh_ring.specs.Picked.{Picked, picked, live, candidate, sent, idle, job_sent, place_sent, is_last, destination_of, address_of, pick_of}
use Rattle.refresh_ring.specs.Sent.{to_send, goes_to, IsApart, IsDue}
use Rattle.refresh_ring.specs.declared.job.Job.{Job}
use Rattle.refresh_ring.specs.declared.job.Job.TheVariants.{Place, Request}
use Rattle.refresh_ring.specs.declared.job.Destination.TheVariants.{Loco}
use Rattle.refresh_ring.specs.declared.turn.Candidate.TheVariants.{FromJobs, FromRing}
use Rattle.refresh_ring.specs.declared.pick.Pick.{Pick}
use Rattle.refresh_ring.specs.declared.pick.Pick.TheVariants.{Switch}
use Rattle.refresh_ring.proofs.Requests.{to_send-live}
use Rattle.refresh_ring.proofs.Following.{IsFollowing, NoneAtAll, next_place-from}

-- ---- neighbours

-- the last destination is kept, and differs from the one before; refreshed slots stay
pub record Tells (addresses : List ℕ) (s : Scheduled) (m : Picked) : Type 0 where
  pub last : m.state.last ≡ goes_to addresses m.answer
  pub apart : IsApart s.last (goes_to addresses m.answer)
  pub slots : m.state.slots ≡ s.slots

job_goes_to : (addresses : List ℕ) (job : Job) → goes_to addresses (pick_of job) ≡ Some (destination_of addresses job)
job_goes_to addresses (Place slot kind) = refl
job_goes_to addresses (Request number closed on again) = refl

module _ (addresses : List ℕ) (s : Scheduled) where
  idle_tells : Tells addresses s (idle s)
  idle_tells = record { last = refl; apart = tt; slots = refl }

  job_tells : (job : Job) → Tells addresses s (sent addresses s (Some (FromJobs job)))
  job_tells job = cond_both (is_last s.last (destination_of addresses job)) (idle s) (job_sent addresses s job) (Tells addresses s)
      (λ h. idle_tells)
      (λ h. record { last = sym (job_goes_to addresses job); apart = rw (job_goes_to addresses job) h; slots = refl })

  ring_tells : (place : ℕ) → Tells addresses s (sent addresses s (Some (FromRing place)))
  ring_tells place = cond_both (is_last s.last (Loco (address_of addresses (slot_of place)))) (idle s) (place_sent addresses s place) (Tells addresses s)
      (λ h. idle_tells)
      (λ h. record { last = refl; apart = h; slots = refl })

  sent_tells : (first : Option Job) (o : Option ℕ) (b : Bool) → Tells addresses s (sent addresses s (candidate b first o))
  sent_tells None None true = idle_tells
  sent_tells None None false = idle_tells
  sent_tells None (Some place) true = ring_tells place
  sent_tells (Some job) o true = job_tells job
  sent_tells (Some job) None false = job_tells job
  sent_tells first (Some place) false = ring_tells place

live_tells : (addresses : List ℕ) (s : Scheduled) (m : Picked) → Tells addresses (live s) m → Tells addresses s m
live_tells addresses s m tells = record { last = tells.last; apart = tells.apart; slots = tells.slots }

pub picked_tells : (addresses : List ℕ) (s : Scheduled) → Tells addresses s (picked addresses s)
unfolding picked
picked_tells addresses s = live_tells addresses s _ (sent_tells addresses (live s) (first_of (live s).jobs) (next_place s.slots s.cursor) s.prefers_jobs)

-- ---- what is sent is due

first_by : (slots : List Bool) (first : Job) (jobs : List Job) (job : Job) (rest : List Job) → (live_jobs slots jobs ≡ job ∷ rest → is_live slots job ≡ true) → (b : Bool) → is_live slots first ≡ b → (if b then first ∷ jobs else live_jobs slots jobs) ≡ job ∷ rest → is_live slots job ≡ true
first_by slots first jobs job rest later true here e =
    let same : first ≡ job = cc in
    rw (← same) here
first_by slots first jobs job rest later false stale e = later e

live-first : (slots : List Bool) (jobs : List Job) (job : Job) (rest : List Job) → live_jobs slots jobs ≡ job ∷ rest → is_live slots job ≡ true
live-first slots [] job rest h = cc
live-first slots (first ∷ jobs) job rest h = first_by slots first jobs job rest (λ e. live-first slots jobs job rest e) (is_live slots first) refl h

contains_first : (xs ys : List Pick) (x : Pick) → x ∷ ys ≡ xs → Contains xs x
contains_first xs ys x e = rw (← e) (0, omega arith, refl)

module _ (s : Scheduled) where
  job_due : (job : Job) (rest : List Job) → live_jobs s.slots s.jobs ≡ job ∷ rest → IsDue s (pick_of job)
  job_due (Place slot kind) rest h = live-first s.slots s.jobs (Place slot kind) rest h
  job_due (Request number closed on true) rest h =
      contains_first (to_send s.jobs) (Switch number closed on ∷ to_send rest) (Switch number closed on) (sym (ap to_send h) ∙ to_send-live s.slots s.jobs)
  job_due (Request number closed on false) rest h =
      contains_first (to_send s.jobs) (to_send rest) (Switch number closed on) (sym (ap to_send h) ∙ to_send-live s.slots s.jobs)

  job_sent_due : (addresses : List ℕ) (job : Job) (rest : List Job) → live_jobs s.slots s.jobs ≡ job ∷ rest → IsDue s (sent addresses (live s) (Some (FromJobs job))).answer
  job_sent_due addresses job rest h = cond_both (is_last s.last (destination_of addresses job)) (idle (live s)) (job_sent addresses (live s) job) (λ m. IsDue s m.answer) (λ same. tt) (λ other. job_due job rest h)

  place_sent_due : (addresses : List ℕ) (place : ℕ) → is_place_on s.slots place ≡ true → IsDue s (sent addresses (live s) (Some (FromRing place))).answer
  place_sent_due addresses place on = cond_both (is_last s.last (Loco (address_of addresses (slot_of place)))) (idle (live s)) (place_sent addresses (live s) place) (λ m. IsDue s m.answer) (λ same. tt) (λ other. on)

  candidate_due : (addresses : List ℕ) (jobs : List Job) (o : Option ℕ) (b : Bool) → live_jobs s.slots s.jobs ≡ jobs → MatchOption o (NoneAtAll (is_place_on s.slots)) (IsFollowing (is_place_on s.slots) (min s.cursor last_place)) → IsDue s (sent addresses (live s) (candidate b (first_of jobs) o)).answer
  candidate_due addresses [] None true h k = tt
  candidate_due addresses [] None false h k = tt
  candidate_due addresses [] (Some place) true h k = place_sent_due addresses place k.passes
  candidate_due addresses (job ∷ rest) o true h k = job_sent_due addresses job rest h
  candidate_due addresses (job ∷ rest) None false h k = job_sent_due addresses job rest h
  candidate_due addresses jobs (Some place) false h k = place_sent_due addresses place k.passes

pub picked_due : (addresses : List ℕ) (s : Scheduled) → IsDue s (picked addresses s).answer
unfolding picked
picked_due addresses s = candidate_due s addresses (live s).jobs (next_place s.slots s.cursor) s.prefers_jobs refl (next_place-from s.slots s.cursor)
