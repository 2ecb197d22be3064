-- A queue stays one, and has room.
use Rattle.std.proofs.Common.{◌≡◌, ℕ, ◌+◌, ◌-◌, ◌*◌, ◌<◌, ◌≤◌, ◌==◌, Bool, true, false, ◌||◌, List, [], ◌∷◌, ◌++◌, length, Some, drop, refl, ap, arith, eqb, inl, inr, eqb-true, ne_eqb, eq-eqb}
use Rattle.std.specs.List.{IsDistinct, AllByRecursion, list_any}
use Rattle.std.specs.Cmp.{nat_eq_equiv}
use Rattle.std.proofs.lemmas.Bool.{or_cases, and_from, both_ways}
use Rattle.std.proofs.lemmas.Map.Keys.{IsDistinct-cons, IsDistinct-push, IsDistinct-tail}
use Rattle.std.proofs.lemmas.List.{append-nil}
use Rattle.std.proofs.lemmas.Map.Steps.{length-le_from_distinct_below}
use Rattle.dcc_packet.specs.Sent.{last_switch}
use Rattle.refresh_ring.specs.Places.{IsSlot, last_place, place_of, number_of}
use Rattle.refresh_ring.specs.Jobs.{IsJob, most_requests, most_jobs, is_place, is_queued, places_in, requests_in, sends_in, IsQueue, is_live, live_jobs, first_of, after_send}
use Rattle.refresh_ring.specs.declared.kind.Kind.{Kind}
use Rattle.refresh_ring.specs.declared.job.Job.{Job}
use Rattle.refresh_ring.specs.declared.job.Job.TheVariants.{Place, Request}
use Rattle.refresh_ring.proofs.Numbers.{number_of-low}

-- ---- how many may wait

above_zero : (jobs : List Job) → AllByRecursion IsJob jobs → AllByRecursion (λ y. eqb 0 y ≡ false) (places_in jobs)
above_zero [] h = tt
above_zero (Place slot kind ∷ jobs) h = (ne_eqb 0 (place_of slot kind) (λ e. omega (arith, h.0)), above_zero jobs h.1)
above_zero (Request number closed on again ∷ jobs) h = above_zero jobs h.1

below : (jobs : List Job) → AllByRecursion IsJob jobs → (q : ℕ) → list_any (eqb q) (places_in jobs) ≡ true → q < last_place + 1
below [] h q any = cc
below (Place slot kind ∷ jobs) h q any = elim (or_cases (eqb q (place_of slot kind)) (list_any (eqb q) (places_in jobs)) any) [
  | inl e ↦ let same : q ≡ place_of slot kind = eqb-true q (place_of slot kind) e in omega (arith, h.0, number_of-low kind)
  | inr later ↦ below jobs h.1 q later
]
below (Request number closed on again ∷ jobs) h q any = below jobs h.1 q any

few_places : (jobs : List Job) → IsQueue jobs → length (places_in jobs) ≤ last_place
few_places jobs queue =
    omega (
      arith,
      length-le_from_distinct_below (0 ∷ places_in jobs) (last_place + 1) (IsDistinct-cons eqb 0 (places_in jobs) (above_zero jobs queue.legal) queue.once)
          (λ q any. elim (or_cases (eqb q 0) (list_any (eqb q) (places_in jobs)) any) [
            | inl e ↦ let same : q ≡ 0 = eqb-true q 0 e in omega arith
            | inr later ↦ below jobs queue.legal q later
          ]),
    )

length_parts : (jobs : List Job) → length jobs ≡ length (places_in jobs) + requests_in jobs
length_parts [] = refl
length_parts (Place slot kind ∷ jobs) = omega (arith, length_parts jobs)
length_parts (Request number closed on again ∷ jobs) = omega (arith, length_parts jobs)

sends_parts : (jobs : List Job) → sends_in jobs ≤ length (places_in jobs) + 2 * requests_in jobs
sends_parts [] = omega arith
sends_parts (Place slot kind ∷ jobs) = omega (arith, sends_parts jobs)
sends_parts (Request number closed on true ∷ jobs) = omega (arith, sends_parts jobs)
sends_parts (Request number closed on false ∷ jobs) = omega (arith, sends_parts jobs)

-- as many jobs as have room
pub room : (jobs : List Job) → IsQueue jobs → length jobs ≤ most_jobs
room jobs queue = omega (arith, length_parts jobs, few_places jobs queue, queue.few)

-- and each request is sent twice
pub few_sends : (jobs : List Job) → IsQueue jobs → sends_in jobs ≤ last_place + 2 * most_requests
few_sends jobs queue = omega (arith, sends_parts jobs, few_places jobs queue, queue.few)

-- ---- an empty queue, and one more job

pub queue-empty : IsQueue []
unfolding IsDistinct
queue-empty = record { legal = tt; once = tt; few = omega arith }

legal-push : (jobs : List Job) (job : Job) → AllByRecursion IsJob jobs → IsJob job → AllByRecursion IsJob (jobs ++ job ∷ [])
legal-push [] job h is = (is, tt)
legal-push (first ∷ jobs) job h is = (h.0, legal-push jobs job h.1 is)

places_in-append : (jobs more : List Job) → places_in (jobs ++ more) ≡ places_in jobs ++ places_in more
places_in-append [] more = refl
places_in-append (Place slot kind ∷ jobs) more = ap (λ l. place_of slot kind ∷ l) (places_in-append jobs more)
places_in-append (Request number closed on again ∷ jobs) more = places_in-append jobs more

pub requests_in-append : (jobs more : List Job) → requests_in (jobs ++ more) ≡ requests_in jobs + requests_in more
requests_in-append [] more = omega arith
requests_in-append (Place slot kind ∷ jobs) more = requests_in-append jobs more
requests_in-append (Request number closed on again ∷ jobs) more = omega (arith, requests_in-append jobs more)

-- places differ where slot or kind do
pub place_of-other : (slot : ℕ) (kind : Kind) (other : ℕ) (other_kind : Kind) → IsSlot slot → IsSlot other → is_place slot kind (Place other other_kind) ≡ false → eqb (place_of slot kind) (place_of other other_kind) ≡ false
place_of-other slot kind other other_kind in_range other_in h =
    ne_eqb (place_of slot kind) (place_of other other_kind) (λ e.
    let same_kind : number_of other_kind ≡ number_of kind = omega (arith, number_of-low kind, number_of-low other_kind) in
    let same : other ≡ slot = omega arith in
    both_ways (is_place slot kind (Place other other_kind)) h (and_from (other == slot) (number_of other_kind == number_of kind) (eq-eqb other slot same) (eq-eqb (number_of other_kind) (number_of kind) same_kind)))

or_false : (a b : Bool) → (a || b) ≡ false → (a ≡ false) × (b ≡ false)
or_false true b h = cc
or_false false b h = (refl, h)

place_of-absent : (slot : ℕ) (kind : Kind) (jobs : List Job) → IsSlot slot → AllByRecursion IsJob jobs → is_queued slot kind jobs ≡ false → list_any (eqb (place_of slot kind)) (places_in jobs) ≡ false
place_of-absent slot kind [] in_range legal h = refl
place_of-absent slot kind (Place other other_kind ∷ jobs) in_range legal h =
    let parts = or_false (is_place slot kind (Place other other_kind)) (is_queued slot kind jobs) h in
    let here = place_of-other slot kind other other_kind in_range legal.0 parts.0 in
    rw here (place_of-absent slot kind jobs in_range legal.1 parts.1)
place_of-absent slot kind (Request number closed on again ∷ jobs) in_range legal h = place_of-absent slot kind jobs in_range legal.1 h

pub queue-place : (jobs : List Job) (slot : ℕ) (kind : Kind) → IsQueue jobs → IsSlot slot → is_queued slot kind jobs ≡ false → IsQueue (jobs ++ Place slot kind ∷ [])
queue-place jobs slot kind queue in_range absent = record {
  legal = legal-push jobs (Place slot kind) queue.legal in_range;
  once = rw places_in-append (IsDistinct-push nat_eq_equiv (places_in jobs) (place_of slot kind) queue.once (place_of-absent slot kind jobs in_range queue.legal absent));
  few = omega (arith, requests_in-append jobs (Place slot kind ∷ []), queue.few);
}

pub queue-request : (jobs : List Job) (number : ℕ) (closed on : Bool) → IsQueue jobs → number ≤ last_switch → requests_in jobs < most_requests → IsQueue (jobs ++ Request number closed on true ∷ [])
queue-request jobs number closed on queue legal few = record {
  legal = legal-push jobs (Request number closed on true) queue.legal legal;
  once = rw (places_in-append jobs (Request number closed on true ∷ []), append-nil) queue.once;
  few = omega (arith, requests_in-append jobs (Request number closed on true ∷ []));
}

-- what overwrites nothing is the list itself
pub keeps_all : {X : Type 0} (n : ℕ) (xs : List X) → length xs ≤ n → drop (length xs - n) xs ≡ xs
keeps_all n xs le = let none : length xs - n ≡ 0 = omega arith in rw none refl

-- ---- jobs leave

pub queue-tail : (job : Job) (jobs : List Job) → IsQueue (job ∷ jobs) → IsQueue jobs
queue-tail (Place slot kind) jobs queue = record {
  legal = queue.legal.1;
  once = IsDistinct-tail eqb (place_of slot kind) (places_in jobs) queue.once;
  few = queue.few;
}
queue-tail (Request number closed on again) jobs queue = record { legal = queue.legal.1; once = queue.once; few = omega (arith, queue.few) }

pub queue-drop : (jobs : List Job) → IsQueue jobs → IsQueue (drop 1 jobs)
queue-drop [] queue = queue
queue-drop (job ∷ jobs) queue = queue-tail job jobs queue

pub queue-sent : (jobs : List Job) → IsQueue jobs → IsQueue (after_send jobs)
queue-sent [] queue = queue
queue-sent (Place slot kind ∷ jobs) queue = queue-tail (Place slot kind) jobs queue
queue-sent (Request number closed on true ∷ jobs) queue = record { legal = queue.legal; once = queue.once; few = queue.few }
queue-sent (Request number closed on false ∷ jobs) queue = queue-tail (Request number closed on false) jobs queue

-- a request that is sent once stays at the head
pub sent_once : (jobs : List Job) (n : ℕ) (closed on : Bool) → first_of jobs ≡ Some (Request n closed on true) → Request n closed on false ∷ drop 1 jobs ≡ after_send jobs
sent_once [] n closed on h = cc
sent_once (job ∷ jobs) n closed on h =
    let e : job ≡ Request n closed on true = cc in
    rw e refl

-- and has room there
pub fits_again : (jobs : List Job) (n : ℕ) (closed on : Bool) → first_of jobs ≡ Some (Request n closed on true) → IsQueue jobs → length (drop 1 jobs) + 1 ≤ most_jobs
fits_again [] n closed on h queue = cc
fits_again (job ∷ jobs) n closed on h queue = omega (arith, room (job ∷ jobs) queue)

-- a job at the head that is dropped
pub live_jobs-drop : (slots : List Bool) (jobs : List Job) (job : Job) → first_of jobs ≡ Some job → is_live slots job ≡ false → live_jobs slots (drop 1 jobs) ≡ live_jobs slots jobs
live_jobs-drop slots [] job h stale = cc
live_jobs-drop slots (first ∷ jobs) job h stale =
    let e : first ≡ job = cc in
    let off : is_live slots first ≡ false = rw e stale in
    rw off refl

-- ---- the buffer after a push

pub pushed : (jobs : List Job) (capacity : ℕ) → capacity ≡ most_jobs → IsQueue jobs → drop (length jobs - capacity) jobs ≡ jobs
pushed jobs capacity full queue = keeps_all capacity jobs (omega (arith, room jobs queue))
