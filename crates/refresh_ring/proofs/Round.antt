-- The ring comes closer to a place with each turn.
use Rattle.std.proofs.Common.{min, ◌≡◌, ℕ, zero, suc, ◌+◌, ◌-◌, ◌*◌, ◌/◌, ◌<◌, ◌≤◌, ◌≢◌, Bool, true, false, nat_lt, lt-ltb, le-ltb, List, Option, Some, None, MatchOption, refl, ap, ap₂, ◌∙◌, arith, inl, inr, ◌⊎◌}
use Rattle.std.proofs.lemmas.Bool.{cases_lt, cases_eq, cond-true, cond-false, cond_both, both_ways}
use Rattle.refresh_ring.specs.Places.{IsSlot, IsPlace, kinds, slot_count, last_place, number_of, place_of, slot_of, kind_at, kind_of, is_refreshed, is_place_on, next_place}
use Rattle.refresh_ring.specs.Scheduled.{Scheduled}
use Rattle.refresh_ring.specs.Jobs.{first_of}
use Rattle.refresh_ring.specs.Picked.{Picked, picked, live, candidate, sent, idle, job_sent, place_sent, is_last, destination_of, address_of}
use Rattle.refresh_ring.specs.Left.{count_to, places_to, places_left, ring_wait, turns_from, turns_left}
use Rattle.refresh_ring.specs.declared.kind.Kind.{Kind}
use Rattle.refresh_ring.specs.declared.job.Job.{Job}
use Rattle.refresh_ring.specs.declared.job.Destination.{Destination}
use Rattle.refresh_ring.specs.declared.job.Destination.TheVariants.{Loco}
use Rattle.refresh_ring.specs.declared.turn.Candidate.TheVariants.{FromJobs, FromRing}
use Rattle.refresh_ring.specs.declared.pick.Pick.TheVariants.{Place as PlacePick}
use Rattle.refresh_ring.proofs.Numbers.{number_of-low, kind_at-number}
use Rattle.refresh_ring.proofs.Counts.{count_to-none, count_to-mono, count_to-above, count_to-parts, count_to-agree}
use Rattle.refresh_ring.proofs.Following.{IsFollowing, NoneAtAll, next_place-from}

abbrev at_place : (ℕ → Bool) → ℕ → Bool
at_place ever place = ever (slot_of place)

left-below : (ever : ℕ → Bool) (place cursor : ℕ) → cursor < place → places_left ever place cursor ≡ places_to ever place - places_to ever cursor
unfolding places_left
left-below ever place cursor h = cond-true (nat_lt cursor place) _ _ (lt-ltb cursor place h)

left-past : (ever : ℕ → Bool) (place cursor : ℕ) → place ≤ cursor → places_left ever place cursor ≡ places_to ever last_place + places_to ever place - places_to ever cursor
unfolding places_left
left-past ever place cursor h = cond-false (nat_lt cursor place) _ _ (le-ltb cursor place h)

-- at least one, since the place itself counts
left_low : (ever : ℕ → Bool) (place cursor : ℕ) → cursor ≤ last_place → IsPlace place → ever (slot_of place) ≡ true → 1 ≤ places_left ever place cursor
left_low ever place cursor in_range is h = elim (cases_lt cursor place) [
  | inl lt ↦ omega (arith, left-below ever place cursor lt, count_to-above (at_place ever) cursor place lt h)
  | inr le ↦ omega (arith, left-past ever place cursor le, count_to-mono (at_place ever) cursor last_place in_range, count_to-above (at_place ever) 0 place is.0 h)
]

-- at most all
left_high : (ever : ℕ → Bool) (place cursor : ℕ) → IsPlace place → places_left ever place cursor ≤ places_to ever last_place
left_high ever place cursor is = elim (cases_lt cursor place) [
  | inl lt ↦ omega (arith, left-below ever place cursor lt, count_to-mono (at_place ever) place last_place is.1)
  | inr le ↦ omega (arith, left-past ever place cursor le, count_to-mono (at_place ever) place cursor le)
]

-- the ring goes on towards a place that it does not send
left_step : (ever test : ℕ → Bool) (place cursor q : ℕ) → cursor ≤ last_place → IsPlace place → test place ≡ true → ever (slot_of place) ≡ true → ever (slot_of q) ≡ true → IsFollowing test cursor q → q ≢ place → places_left ever place q + 1 ≤ places_left ever place cursor
left_step ever test place cursor q cursor_in is on counts known next other = elim (cases_lt cursor place) [
  | inl lt ↦ elim (cases_lt q place) [
    | inl before ↦ elim (cases_lt cursor q) [
      | inl more ↦ omega (arith, left-below ever place cursor lt, left-below ever place q before, count_to-above (at_place ever) cursor q more known, count_to-above (at_place ever) q place before counts)
      | inr back ↦ absurd (both_ways (test place) (next.above place lt is.1 (inr back)) on)
    ]
    | inr past ↦ let above : place < q = omega arith in absurd (both_ways (test place) (next.above place lt is.1 (inl above)) on)
  ]
  | inr le ↦ elim (cases_lt cursor q) [
    | inl more ↦ let past : place ≤ q = omega arith in omega (arith, left-past ever place cursor le, left-past ever place q past, count_to-above (at_place ever) cursor q more known, count_to-mono (at_place ever) q last_place next.high)
    | inr back ↦ elim (cases_lt q place) [
      | inl before ↦ omega (arith, left-past ever place cursor le, left-below ever place q before, count_to-mono (at_place ever) cursor last_place cursor_in, count_to-above (at_place ever) 0 q next.low known, count_to-above (at_place ever) q place before counts)
      | inr past ↦ let above : place < q = omega arith in absurd (both_ways (test place) (next.below back place is.0 above) on)
    ]
  ]
]

-- ---- a turn

wait_jobs : (last : Option Destination) → 3 ≤ ring_wait true last
wait_jobs None = omega arith
wait_jobs (Some there) = omega arith

wait_low : (b : Bool) (last : Option Destination) → 1 ≤ ring_wait b last
wait_low false None = omega arith
wait_low false (Some there) = omega arith
wait_low true None = omega arith
wait_low true (Some there) = omega arith

wait_high : (b : Bool) (last : Option Destination) → ring_wait b last ≤ 4
wait_high false None = omega arith
wait_high false (Some there) = omega arith
wait_high true None = omega arith
wait_high true (Some there) = omega arith

wait_idle : (b : Bool) (last : Option Destination) (there : Destination) → is_last last there ≡ true → ring_wait b None + 1 ≤ ring_wait b last
wait_idle b None there h = cc
wait_idle false (Some was) there h = omega arith
wait_idle true (Some was) there h = omega arith

abbrev turns_at : (ℕ → Bool) → ℕ → Scheduled → ℕ
turns_at ever place s = turns_from ever place s.cursor s.last s.prefers_jobs

-- the place is sent, or comes closer
Progresses : (ever : ℕ → Bool) (place : ℕ) → Scheduled → Picked → Type 0
Progresses ever place s m = (m.answer ≡ PlacePick (slot_of place) (kind_of place)) ⊎ (turns_at ever place m.state + 1 ≤ turns_at ever place s)

module _ (ever : ℕ → Bool) (place : ℕ) (is : IsPlace place) (addresses : List ℕ) (s : Scheduled) (on : is_place_on s.slots place ≡ true) (known : (n : ℕ) → is_refreshed s.slots n ≡ true → ever n ≡ true) where
  idle_goes : (there : Destination) → is_last s.last there ≡ true → Progresses ever place s (idle s)
  unfolding Progresses turns_from
  idle_goes there h = inr (omega (arith, wait_idle s.prefers_jobs s.last there h))

  job_goes : (job : Job) → s.prefers_jobs ≡ true → Progresses ever place s (sent addresses s (Some (FromJobs job)))
  unfolding Progresses turns_from
  job_goes job prefers = cond_both (is_last s.last (destination_of addresses job)) (idle s) (job_sent addresses s job) (Progresses ever place s)
      (idle_goes (destination_of addresses job))
      (λ h. inr (rw prefers (omega (arith, wait_jobs s.last))))

  ring_goes : (q : ℕ) → IsFollowing (is_place_on s.slots) (min s.cursor last_place) q → Progresses ever place s (sent addresses s (Some (FromRing q)))
  unfolding Progresses turns_from
  ring_goes q next = cond_both (is_last s.last (Loco (address_of addresses (slot_of q)))) (idle s) (place_sent addresses s q) (Progresses ever place s)
      (idle_goes (Loco (address_of addresses (slot_of q))))
      (λ h. elim (cases_eq q place) [
        | inl e ↦ inl (rw e)
        | inr ne ↦
            let further = left_step ever (is_place_on s.slots) place (min s.cursor last_place) q (omega arith) is on (known (slot_of place) on) (known (slot_of q) next.passes) next ne in
            let clipped : min q last_place ≡ q = omega (arith, next.high) in
            inr (rw clipped (omega (arith, further, wait_low s.prefers_jobs s.last, left_low ever place q next.high is (known (slot_of place) on))))
      ])

  chosen_goes : (first : Option Job) (q : ℕ) (b : Bool) → s.prefers_jobs ≡ b → IsFollowing (is_place_on s.slots) (min s.cursor last_place) q → Progresses ever place s (sent addresses s (candidate b first (Some q)))
  chosen_goes (Some job) q true prefers next = job_goes job prefers
  chosen_goes None q true prefers next = ring_goes q next
  chosen_goes first q false prefers next = ring_goes q next

  sent_goes : (first : Option Job) (o : Option ℕ) → MatchOption o (NoneAtAll (is_place_on s.slots)) (IsFollowing (is_place_on s.slots) (min s.cursor last_place)) → Progresses ever place s (sent addresses s (candidate s.prefers_jobs first o))
  sent_goes first None none = absurd (both_ways (is_place_on s.slots place) (none.fails place is.0 is.1) on)
  sent_goes first (Some q) next = chosen_goes first q s.prefers_jobs refl next

place_goes : (ever : ℕ → Bool) (place : ℕ) (addresses : List ℕ) (s : Scheduled) → IsPlace place → is_place_on s.slots place ≡ true → ((n : ℕ) → is_refreshed s.slots n ≡ true → ever n ≡ true) → ((picked addresses s).answer ≡ PlacePick (slot_of place) (kind_of place)) ⊎ (turns_at ever place (picked addresses s).state + 1 ≤ turns_at ever place s)
unfolding picked Progresses turns_from
place_goes ever place addresses s is on known =
    sent_goes ever place is addresses (live s) on known (first_of (live s).jobs) (next_place s.slots s.cursor) (next_place-from s.slots s.cursor)

-- each slot counts once for each kind
count_to-kinds : (ever : ℕ → Bool) (k : ℕ) → places_to ever (slot_count * k) ≡ count_to ever slot_count * k
count_to-kinds ever zero = omega (arith, count_to-none (at_place ever))
count_to-kinds ever (suc k) =
    let block : count_to (λ n. at_place ever (slot_count * k + n)) slot_count ≡ count_to ever slot_count = count_to-agree (λ n. at_place ever (slot_count * k + n)) ever slot_count (λ n low high. let e : slot_of (slot_count * k + n) ≡ n = omega arith in ap ever e) in
    let next : slot_count * suc k ≡ slot_count * k + slot_count = omega arith in
    rw next (omega (arith, block, count_to-kinds ever k, count_to-parts (at_place ever) (slot_count * k) slot_count))

turns_at-least : (ever : ℕ → Bool) (place : ℕ) (s : Scheduled) → IsPlace place → ever (slot_of place) ≡ true → 1 ≤ turns_at ever place s
unfolding turns_from
turns_at-least ever place s is h = omega (arith, wait_low s.prefers_jobs s.last)

turns_at-most : (ever : ℕ → Bool) (place : ℕ) (s : Scheduled) → IsPlace place → ever (slot_of place) ≡ true → turns_at ever place s ≤ 4 * kinds * count_to ever slot_count
unfolding turns_from
turns_at-most ever place s is h =
    omega (arith, count_to-kinds ever kinds, wait_high s.prefers_jobs s.last, left_low ever place (min s.cursor last_place) (omega arith) is h, left_high ever place (min s.cursor last_place) is)

-- ---- by slot and kind

record IsPlaceOf (slot : ℕ) (kind : Kind) : Type 0 where
  in_range : IsPlace (place_of slot kind)
  slot_is : slot_of (place_of slot kind) ≡ slot
  kind_is : kind_of (place_of slot kind) ≡ kind

place_of-is : (slot : ℕ) (kind : Kind) → IsSlot slot → IsPlaceOf slot kind
place_of-is slot kind h = record {
  in_range = (omega arith, omega (arith, number_of-low kind));
  slot_is = omega arith;
  kind_is =
      let e : (place_of slot kind - 1) / slot_count ≡ number_of kind = omega arith in
      ap kind_at e ∙ kind_at-number kind;
}

pub turns_left-falls : (ever : ℕ → Bool) (slot : ℕ) (kind : Kind) (addresses : List ℕ) (s : Scheduled) → IsSlot slot → is_refreshed s.slots slot ≡ true → ((n : ℕ) → is_refreshed s.slots n ≡ true → ever n ≡ true) → ((picked addresses s).answer ≡ PlacePick slot kind) ⊎ (turns_left ever slot kind (picked addresses s).state + 1 ≤ turns_left ever slot kind s)
turns_left-falls ever slot kind addresses s is_slot on known =
    let is = place_of-is slot kind is_slot in
    elim (place_goes ever (place_of slot kind) addresses s is.in_range (rw is.slot_is on) known) [
      | inl e ↦ inl (e ∙ ap₂ PlacePick is.slot_is is.kind_is)
      | inr less ↦ inr less
    ]

pub turns_left-least : (ever : ℕ → Bool) (slot : ℕ) (kind : Kind) (s : Scheduled) → IsSlot slot → ever slot ≡ true → 1 ≤ turns_left ever slot kind s
turns_left-least ever slot kind s is_slot h =
    let is = place_of-is slot kind is_slot in
    turns_at-least ever (place_of slot kind) s is.in_range (rw is.slot_is h)

pub turns_left-most : (ever : ℕ → Bool) (slot : ℕ) (kind : Kind) (s : Scheduled) → IsSlot slot → ever slot ≡ true → turns_left ever slot kind s ≤ 4 * kinds * count_to ever slot_count
turns_left-most ever slot kind s is_slot h =
    let is = place_of-is slot kind is_slot in
    turns_at-most ever (place_of slot kind) s is.in_range (rw is.slot_is h)
