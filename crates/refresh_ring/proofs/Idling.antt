-- A turn sends idle only where nothing is due, or where the next packet comes too soon.
use Rattle.std.proofs.Common.{◌≡◌, ◌↔◌, ℕ, Bool, true, false, if◌then◌else◌, List, [], ◌∷◌, Option, Some, None, MatchOption, min, refl, sym, ◌∙◌, ap, inl, inr, arith}
use Rattle.std.specs.List.{AllByRecursion}
use Rattle.refresh_ring.specs.Places.{IsSlot, last_place, is_refreshed, is_place_on, slot_of, kind_of, next_place}
use Rattle.refresh_ring.specs.Jobs.{IsJob, live_jobs, first_of}
use Rattle.refresh_ring.specs.Scheduled.{IsScheduled, Scheduled}
use Rattle.refresh_ring.specs.Picked.{Picked, picked, live, candidate, sent, idle, job_sent, place_sent, is_last, destination_of, address_of, pick_of}
use Rattle.refresh_ring.specs.Sent.{to_send, goes_to}
use Rattle.refresh_ring.specs.Idle.{HasCauseToIdle, NothingIsDue, is_too_soon, next_of, unless_too_soon}
use Rattle.refresh_ring.specs.declared.job.Job.{Job}
use Rattle.refresh_ring.specs.declared.job.Job.TheVariants.{Place, Request}
use Rattle.refresh_ring.specs.declared.job.Destination.TheVariants.{Loco}
use Rattle.refresh_ring.specs.declared.turn.Candidate.{Candidate}
use Rattle.refresh_ring.specs.declared.turn.Candidate.TheVariants.{FromJobs, FromRing}
use Rattle.refresh_ring.specs.declared.pick.Pick.{Pick}
use Rattle.refresh_ring.specs.declared.pick.Pick.TheVariants.{Idle, Place as PlacePick}
use Rattle.refresh_ring.proofs.Requests.{to_send-live}
use Rattle.refresh_ring.proofs.Following.{IsFollowing, NoneAtAll, next_place-from}

-- what a candidate sends, wherever the last packet went
abbrev packet_of : Option Candidate → Pick
packet_of None = Idle
packet_of (Some (FromJobs job)) = pick_of job
packet_of (Some (FromRing place)) = PlacePick (slot_of place) (kind_of place)

answer_if : (b : Bool) (x y : Picked) → (if b then x else y).answer ≡ (if b then x.answer else y.answer)
answer_if true x y = refl
answer_if false x y = refl

sent_free : (addresses : List ℕ) (s : Scheduled) (c : Option Candidate) → s.last ≡ None → (sent addresses s c).answer ≡ packet_of c
sent_free addresses s None e = refl
sent_free addresses s (Some (FromJobs job)) e = rw e refl
sent_free addresses s (Some (FromRing place)) e = rw e refl

sent_unless : (addresses : List ℕ) (s : Scheduled) (c : Option Candidate) → (sent addresses s c).answer ≡ unless_too_soon addresses s (packet_of c)
sent_unless addresses s None = refl
sent_unless addresses s (Some (FromJobs (Place slot kind))) = answer_if (is_last s.last (destination_of addresses (Place slot kind))) (idle s) (job_sent addresses s (Place slot kind))
sent_unless addresses s (Some (FromJobs (Request number closed on again))) =
    answer_if (is_last s.last (destination_of addresses (Request number closed on again))) (idle s) (job_sent addresses s (Request number closed on again))
sent_unless addresses s (Some (FromRing place)) = answer_if (is_last s.last (Loco (address_of addresses (slot_of place)))) (idle s) (place_sent addresses s place)

-- the candidate of a turn
abbrev candidate_of : Scheduled → Option Candidate
candidate_of s = candidate s.prefers_jobs (first_of (live_jobs s.slots s.jobs)) (next_place s.slots s.cursor)

next-is : (addresses : List ℕ) (s : Scheduled) → next_of addresses s ≡ packet_of (candidate_of s)
unfolding picked
next-is addresses s = sent_free addresses (live (record s { last = None })) (candidate_of s) refl

pub picked-next : (addresses : List ℕ) (s : Scheduled) → (picked addresses s).answer ≡ unless_too_soon addresses s (next_of addresses s)
unfolding picked
picked-next addresses s = sent_unless addresses (live s) (candidate_of s) ∙ ap (unless_too_soon addresses s) (sym (next-is addresses s))

-- ---- nothing is next where nothing is due

slot_by_place : (slot : ℕ) → IsSlot slot → slot_of slot ≡ slot
slot_by_place slot is = omega (arith, is.0, is.1)

none_refreshed : (slots : List Bool) → NoneAtAll (is_place_on slots) → (slot : ℕ) → IsSlot slot → is_refreshed slots slot ≡ false
none_refreshed slots none slot is = ap (is_refreshed slots) (sym (slot_by_place slot is)) ∙ none.fails slot is.0 (omega (arith, is.1))

by_candidate : (s : Scheduled) (jobs : List Job) (next : Option ℕ) (b : Bool) → live_jobs s.slots s.jobs ≡ jobs
    → MatchOption next (NoneAtAll (is_place_on s.slots)) (IsFollowing (is_place_on s.slots) (min s.cursor last_place))
    → packet_of (candidate b (first_of jobs) next) ≡ Idle → NothingIsDue s
by_candidate s [] None b e none h = record { slots = none_refreshed s.slots none; requests = sym (to_send-live s.slots s.jobs) ∙ ap to_send e }
by_candidate s [] (Some place) true e some h = cc
by_candidate s [] (Some place) false e some h = cc
by_candidate s (Place slot kind ∷ jobs) next true e some h = cc
by_candidate s (Request number closed on again ∷ jobs) next true e some h = cc
by_candidate s (Place slot kind ∷ jobs) None false e some h = cc
by_candidate s (Request number closed on again ∷ jobs) None false e some h = cc
by_candidate s (job ∷ jobs) (Some place) false e some h = cc

nothing-of_idle : (addresses : List ℕ) (s : Scheduled) → next_of addresses s ≡ Idle → NothingIsDue s
nothing-of_idle addresses s h =
    by_candidate s (live_jobs s.slots s.jobs) (next_place s.slots s.cursor) s.prefers_jobs refl (next_place-from s.slots s.cursor) (sym (next-is addresses s) ∙ h)

none_live : (slots : List Bool) (jobs : List Job) → AllByRecursion IsJob jobs → ((slot : ℕ) → IsSlot slot → is_refreshed slots slot ≡ false) → to_send jobs ≡ [] → live_jobs slots jobs ≡ []
none_live slots [] legal off none = refl
none_live slots (Place slot kind ∷ jobs) legal off none = rw (off slot legal.0) (none_live slots jobs legal.1 off none)
none_live slots (Request number closed on true ∷ jobs) legal off none = cc
none_live slots (Request number closed on false ∷ jobs) legal off none = cc

slot_of-legal : (place : ℕ) → IsSlot (slot_of place)
slot_of-legal place = (omega arith, omega arith)

idle_by : (s : Scheduled) (next : Option ℕ) (b : Bool) → MatchOption next (NoneAtAll (is_place_on s.slots)) (IsFollowing (is_place_on s.slots) (min s.cursor last_place))
    → ((slot : ℕ) → IsSlot slot → is_refreshed s.slots slot ≡ false) → packet_of (candidate b None next) ≡ Idle
idle_by s None true none off = refl
idle_by s None false none off = refl
idle_by s (Some place) b some off =
    let on : is_refreshed s.slots (slot_of place) ≡ true = some.passes in
    let not_on : is_refreshed s.slots (slot_of place) ≡ false = off (slot_of place) (slot_of-legal place) in
    cc

idle-of_nothing : (addresses : List ℕ) (s : Scheduled) → IsScheduled s → NothingIsDue s → next_of addresses s ≡ Idle
idle-of_nothing addresses s is nothing =
    let none : live_jobs s.slots s.jobs ≡ [] = none_live s.slots s.jobs is.queue.legal nothing.slots nothing.requests in
    next-is addresses s
    ∙ ap (λ jobs. packet_of (candidate s.prefers_jobs (first_of jobs) (next_place s.slots s.cursor))) none
    ∙ idle_by s (next_place s.slots s.cursor) s.prefers_jobs (next_place-from s.slots s.cursor) nothing.slots

pub idle_is_nothing : (addresses : List ℕ) (s : Scheduled) → IsScheduled s → (next_of addresses s ≡ Idle) ↔ NothingIsDue s
idle_is_nothing addresses s is = (nothing-of_idle addresses s, idle-of_nothing addresses s is)

cause_by : (addresses : List ℕ) (s : Scheduled) (soon : Bool) → is_too_soon s.last (goes_to addresses (next_of addresses s)) ≡ soon
    → (if soon then Idle else next_of addresses s) ≡ Idle → HasCauseToIdle addresses s
cause_by addresses s true e h = inr e
cause_by addresses s false e h = inl (nothing-of_idle addresses s h)

pub idle_by_cause : (addresses : List ℕ) (s : Scheduled) → (picked addresses s).answer ≡ Idle → HasCauseToIdle addresses s
idle_by_cause addresses s h = cause_by addresses s (is_too_soon s.last (goes_to addresses (next_of addresses s))) refl (sym (picked-next addresses s) ∙ h)
