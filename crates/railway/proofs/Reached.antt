-- Without momentum the turnouts on the way of a train are those that the track reaches up to where it runs.
use Rattle.std.proofs.Common.{◌≡◌, ℕ, zero, suc, ◌+◌, ◌-◌, ◌*◌, ◌<◌, ◌≤◌, ◌==◌, ◌&&◌, ◌||◌, Bool, true, false, inl, inr, List, [], ◌∷◌, Option, Some, None, length, map, refl, ap, sym, subst, ◌∙◌, arith, mul-le-mul_left}
use Rattle.std.proofs.Math.Nat.{mul-suc}
use Rattle.std.proofs.lemmas.Bool.{and_from, and_parts, cases_Bool, eq-eqb, eqb-true}
use Rattle.std.specs.List.{list_any, slice_index_or}
use Rattle.std.specs.Option.{option_and_then}
use Rattle.std.specs.Prelude.{if◌then◌else◌, IsTrue, is_some}
use Rattle.decoder_node.specs.declared.running.Running.{Running}
use Rattle.motion.specs.Velocity.{next_velocity_by, velocity}
use Rattle.motion.specs.declared.velocity.Momentum.{Momentum}
use Rattle.motion.specs.declared.velocity.Velocity.{Velocity}
use Rattle.railway.specs.declared.block.BlockEnd.{BlockEnd}
use Rattle.railway.specs.declared.block.End.{End}
use Rattle.railway.specs.declared.exit.Exit.TheVariants.{Against as Lies, Leads}
use Rattle.railway.specs.declared.exit.Onward.TheVariants.{To}
use Rattle.railway.specs.declared.joint.TurnoutState.{TurnoutState}
use Rattle.railway.specs.declared.train.Place.{Place}
use Rattle.railway.specs.declared.train.TrainState.{TrainState}
use Rattle.railway.specs.Blocks.{length_of, same_block_end}
use Rattle.railway.specs.Driven.{IsOnWayOf, lies_over, next_velocity_of, reaches, trailing_end, way_asked}
use Rattle.railway.specs.Ends.{are_apart, ends_of_joints, ends_of_turnouts, has_end}
use Rattle.railway.specs.Laws.{is_moving_end}
use Rattle.railway.specs.Network.{Network, exit_of, is_end_of, is_moving, is_sound, leaves_at, marked, off_rails, onward, run_on, spans, turnouts_of, way_on}
use Rattle.railway.specs.Places.{end_ahead, end_at, is_derailed, is_on_track, span, start_at, to_end, turned, turned_place}
use Rattle.railway.specs.Railway.{is_train}
use Rattle.railway.specs.Running.{is_within, run_by, run_for}
use Rattle.railway.specs.Trains.{drive_of, speed_at}
use Rattle.railway.proofs.Driven.{for-for, for-same, for-train, for-zero}
use Rattle.railway.proofs.Elsewhere.{for-derailed, for-rails, one-ridden, reaches-there}
use Rattle.railway.proofs.Facts.{none-some, not-both, or-left-true, or-right-true, other-other}
use Rattle.railway.proofs.Joining.{apart-last}
use Rattle.railway.proofs.Keeping.{by-step, run-within, spans-way, step-spans, turned-spans, turned-within, way-spans, whole-of}
use Rattle.railway.proofs.Leading.{changed-sound, sound}
use Rattle.railway.proofs.Riding.{moved-rails}
use Rattle.railway.proofs.Running.{no-momentum}
use Rattle.railway.proofs.Runs.{parts-of}
use Rattle.railway.proofs.Switching.{apart-first, end-has, moving-exit}
use Rattle.railway.proofs.Throwing.{Alike, Changes, changed, end_of_any, first-ends, first-next, first-zero, same-exit}
use Rattle.railway.proofs.Turning.{exit-back, leads-to, onward-cases, onward-end, onward-on_track, start-end, turned-turned, way-back, way-on_track}
use Rattle.railway.proofs.Ways.{run_on-derailed, way_on-add, way_on-ends, way_on-suc}

-- A place to which a way leads.

record LeadsWithin (n : Network) (p : Place) (way : ℕ) (q : Place) : Type 0 where
  part : ℕ
  within : part ≤ way
  there : way_on n p part ≡ Some q

leads-here : (n : Network) (p : Place) (way : ℕ) → LeadsWithin n p way p
unfolding way_on
leads-here n p way = record { part = 0; within = omega arith; there = refl }

leads-less : (n : Network) (p q : Place) (way more : ℕ) → way ≤ more → LeadsWithin n p way q → LeadsWithin n p more q
leads-less n p q way more less h = record { part = h.part; within = omega (arith, less, h.within); there = h.there }

leads-next : (n : Network) (p q r : Place) (way : ℕ) → onward n p ≡ To q → LeadsWithin n q way r → LeadsWithin n p (suc way) r
leads-next n p q r way on h = record { part = suc h.part; within = omega (arith, h.within); there = way_on-suc n p q h.part on ∙ h.there }

way-then : (n : Network) (p q r : Place) (a b : ℕ) → way_on n p a ≡ Some q → way_on n q b ≡ Some r → way_on n p (a + b) ≡ Some r
way-then n p q r a b h g = way_on-add n p a b ∙ ap (λ (o : Option Place). option_and_then (λ s. way_on n s b) o) h ∙ g

leads-then : (n : Network) (p q r : Place) (a b : ℕ) → LeadsWithin n p a q → LeadsWithin n q b r → LeadsWithin n p (a + b) r
leads-then n p q r a b h g = record { part = h.part + g.part; within = omega (arith, h.within, g.within); there = way-then n p q r h.part g.part h.there g.there }

-- A train that runs.

run-leads : (n : Network) (t : TrainState) (way : ℕ) → LeadsWithin n t.rear way (run_on n t way).rear
unfolding run_on
run-leads n t zero = leads-here n t.rear 0
run-leads n t (suc way) =
    by-step (λ (u : TrainState). LeadsWithin n t.rear (suc way) (run_on n u way).rear) n t
    (leads-less n t.rear (run_on n t way).rear way (suc way) (omega arith) (run-leads n t way))
    (λ _. subst (λ (u : TrainState). LeadsWithin n t.rear (suc way) u.rear) (sym (run_on-derailed n (off_rails n t.front t) way refl)) (leads-here n t.rear (suc way)))
    (λ front rear rails f r. leads-next n t.rear rear (run_on n (record t { front = front; rear = rear }) way).rear way r (run-leads n (record t { front = front; rear = rear }) way))

run-spans : (n : Network) (t : TrainState) (way : ℕ) → spans n t ≡ true → spans n (run_on n t way) ≡ true
unfolding run_on
run-spans n t zero h = h
run-spans n t (suc way) h =
    by-step (λ (u : TrainState). spans n (run_on n u way) ≡ true) n t
    (run-spans n t way h)
    (λ _. subst (λ (u : TrainState). spans n u ≡ true) (sym (run_on-derailed n (off_rails n t.front t) way refl)) h)
    (λ front rear rails f r.
    run-spans n (record t { front = front; rear = rear }) way (way-spans n (record t { front = front; rear = rear }) (step-spans n t front rear h f r)))

by-leads : (n : Network) (forward : Bool) (way : ℕ) (t : TrainState) → LeadsWithin n (trailing_end forward t) way (trailing_end forward (run_by n forward way t))
by-leads n true way t = run-leads n t way
by-leads n false way t =
    subst (λ (q : Place). LeadsWithin n (turned_place t.front) way q) (sym (turned-turned (run_on n (turned t) way).rear)) (run-leads n (turned t) way)

by-spans : (n : Network) (forward : Bool) (way : ℕ) (t : TrainState) → IsTrue (is_sound n) → is_within n.blocks t ≡ true → spans n t ≡ true → spans n (run_by n forward way t) ≡ true
by-spans n true way t is within h = run-spans n t way h
by-spans n false way t is within h =
    let back : TrainState = run_on n (turned t) way in
    turned-spans n back is (run-within n (turned t) way is (turned-within n t within)) (run-spans n (turned t) way (turned-spans n t is within h))

-- What a way reaches.

record Met (n : Network) (p : Place) (way : ℕ) (state : TurnoutState) : Type 0 where
  part : ℕ
  place : Place
  within : part < way
  there : way_on n p part ≡ Some place
  leaves : leaves_at (λ end. is_end_of end state) n place ≡ true

met : (n : Network) (p : Place) (way : ℕ) (state : TurnoutState) → reaches n p way state ≡ true → Met n p way state
unfolding way_on
met n p zero state h = absurd (not-both (reaches n p 0 state) h (ap (λ (o : Option Place). is_some o) (first-zero (λ end. is_end_of end state) n p)))
met n p (suc way) state h = elim (cases_Bool (leaves_at (λ end. is_end_of end state) n p)) [
  | inl here ↦ record { part = 0; place = p; within = omega arith; there = refl; leaves = here }
  | inr other ↦ elim (onward-cases (onward n p)) [
    | inl next ↦
        let rest = met n next.0 way state (sym (ap (λ (o : Option Place). is_some o) (first-next (λ end. is_end_of end state) n p next.0 way other next.1)) ∙ h) in
        record { part = suc rest.part; place = rest.place; within = omega (arith, rest.within); there = way_on-suc n p next.0 rest.part next.1 ∙ rest.there; leaves = rest.leaves }
    | inr ends ↦
        absurd (not-both (reaches n p (suc way) state) h (ap (λ (o : Option Place). is_some o) (first-ends (λ end. is_end_of end state) n p (suc way) other ends)))
  ]
]

-- The ends of a turnout.

abbrev own : TurnoutState → List BlockEnd
own state = state.turnout.common ∷ state.turnout.closed ∷ state.turnout.thrown ∷ []

abbrev ends_in : List TurnoutState → List BlockEnd
ends_in states = ends_of_turnouts (turnouts_of states)

has-later : (state : TurnoutState) (states : List TurnoutState) (end : BlockEnd) → has_end end (ends_in states) ≡ true → has_end end (ends_in (state ∷ states)) ≡ true
has-later state states end h =
    or-right-true (same_block_end end state.turnout.common) _ (or-right-true (same_block_end end state.turnout.closed) _ (or-right-true (same_block_end end state.turnout.thrown) _ h))

at-has : (states : List TurnoutState) (i : ℕ) (none : TurnoutState) (end : BlockEnd) → i < length states → is_end_of end (slice_index_or states i none) ≡ true → has_end end (ends_in states) ≡ true
at-has [] i none end less h = absurd (omega (arith, less))
at-has (state ∷ states) zero none end less h = end-has state end (ends_in states) h
at-has (state ∷ states) (suc i) none end less h = has-later state states end (at-has states i none end (omega (arith, less)) h)

-- no other turnout has an end of one
not-later : (state : TurnoutState) (states : List TurnoutState) (end : BlockEnd) → are_apart (ends_in (state ∷ states)) ≡ true → is_end_of end state ≡ true → has_end end (ends_in states) ≡ true → ⊥
not-later state states end apart h later = not-both (has_end end (own state)) (end-has state end [] h) (apart-first end (own state) (ends_in states) apart later)

abbrev has_both : (end next : BlockEnd) → TurnoutState → Bool
has_both end next state = is_end_of next state && is_end_of end state

any-has : (states : List TurnoutState) (end next : BlockEnd) → list_any (has_both end next) states ≡ true → has_end end (ends_in states) ≡ true
any-has [] end next h = cc
any-has (state ∷ states) end next h = elim (cases_Bool (has_both end next state)) [
  | inl here ↦ end-has state end (ends_in states) (and_parts (is_end_of next state) (is_end_of end state) here).1
  | inr other ↦ has-later state states end (any-has states end next (sym (ap (λ (b : Bool). b || list_any (has_both end next) states) other) ∙ h))
]

one-only : (states : List TurnoutState) (i : ℕ) (none : TurnoutState) (end next : BlockEnd) → are_apart (ends_in states) ≡ true → i < length states → is_end_of end (slice_index_or states i none) ≡ true
    → list_any (has_both end next) states ≡ true → is_end_of next (slice_index_or states i none) ≡ true
one-only [] i none end next apart less h both = absurd (omega (arith, less))
one-only (state ∷ states) zero none end next apart less h both = elim (cases_Bool (has_both end next state)) [
  | inl here ↦ (and_parts (is_end_of next state) (is_end_of end state) here).0
  | inr other ↦
      absurd (not-later state states end apart h (any-has states end next (sym (ap (λ (b : Bool). b || list_any (has_both end next) states) other) ∙ both)))
]
one-only (state ∷ states) (suc i) none end next apart less h both = elim (cases_Bool (has_both end next state)) [
  | inl here ↦
      absurd (not-later state states end apart (and_parts (is_end_of next state) (is_end_of end state) here).1 (at-has states i none end (omega (arith, less)) h))
  | inr other ↦
      one-only states i none end next (apart-last (own state) (ends_in states) apart) (omega (arith, less)) h (sym (ap (λ (b : Bool). b || list_any (has_both end next) states) other) ∙ both)
]

-- the turnouts that have an end move
set_moving : BlockEnd → TurnoutState → TurnoutState
set_moving end state = if is_end_of end state then record state { left = 1 } else state

set-changes : (end : BlockEnd) → Changes (set_moving end) (λ state. is_end_of end state)
unfolding set_moving
set-changes end = record { keeps = keeps; others = others } where
  keeps : (state : TurnoutState) → (if is_end_of end state then record state { left = 1 } else state).turnout ≡ state.turnout
  keeps state = by (is_end_of end state) where
    by : (b : Bool) → (if b then record state { left = 1 } else state).turnout ≡ state.turnout
    by true = refl
    by false = refl

  others : (state : TurnoutState) → is_end_of end state ≡ false → Alike state (if is_end_of end state then record state { left = 1 } else state)
  others state h = subst (λ (b : Bool). Alike state (if b then record state { left = 1 } else state)) (sym h) (record { turnout = refl; thrown = refl; moving = refl })

moving-there : (states : List TurnoutState) (i : ℕ) (none : TurnoutState) (end : BlockEnd) → i < length states → is_end_of end (slice_index_or states i none) ≡ true → is_moving_end (map (set_moving end) states) end ≡ true
unfolding set_moving
moving-there [] i none end less h = absurd (omega (arith, less))
moving-there (state ∷ states) zero none end less h =
    or-left-true (is_moving (set_moving end state) && is_end_of end (set_moving end state)) _
    (ap (λ (b : Bool). is_moving (if b then record state { left = 1 } else state) && is_end_of end (if b then record state { left = 1 } else state)) h ∙ h)
moving-there (state ∷ states) (suc i) none end less h =
    or-right-true (is_moving (set_moving end state) && is_end_of end (set_moving end state)) _ (moving-there states i none end (omega (arith, less)) h)

leads-lies : (next : BlockEnd) → Leads next ≡ Lies → ⊥
leads-lies next h = cc

-- where a turnout leads from one of its ends is another of them
same-turnout : (n : Network) (i : ℕ) (none : TurnoutState) (end next : BlockEnd) → IsTrue (is_sound n) → i < length n.turnouts → is_end_of end (slice_index_or n.turnouts i none) ≡ true → exit_of n end ≡ Leads next
    → is_end_of next (slice_index_or n.turnouts i none) ≡ true
same-turnout n i none end next is less h leads = elim (cases_Bool (end_of_any (λ state. is_end_of end state) n.turnouts next)) [
  | inl both ↦
      one-only n.turnouts i none end next (apart-last (ends_of_joints n.joints) (ends_in n.turnouts) (sound n is).apart) less h both
  | inr neither ↦
      let m : Network = changed (set_moving end) n in
      let changes = set-changes end in
      let sound_then : IsTrue (is_sound m) = changed-sound (set_moving end) changes.keeps n is in
      let back : exit_of n next ≡ Leads end = exit-back n end next (sound n is).apart leads in
      let there : exit_of m next ≡ Leads end = same-exit (set_moving end) (λ state. is_end_of end state) changes n next neither ∙ back in
      let again : exit_of m end ≡ Leads next = exit-back m next end (sound m sound_then).apart there in
      absurd (leads-lies next (sym again ∙ moving-exit m end sound_then (moving-there n.turnouts i none end less h)))
]

-- A turnout over which a train lies is also on the way from its front to its rear.

behind-start : (n : Network) (next : BlockEnd) (state : TurnoutState) → is_end_of next state ≡ true → leaves_at (λ end. is_end_of end state) n (turned_place (start_at n.blocks next)) ≡ true
behind-start n next state h =
    let there : Place = record { block = next.block; at = end_at next.end (length_of n.blocks next.block); toward = next.end } in
    ap (λ (e : End). leaves_at (λ end. is_end_of end state) n (record there { toward = e })) (other-other next.end)
    ∙ and_from (to_end (length_of n.blocks next.block) there == 0) (is_end_of next state) (eq-eqb (to_end (length_of n.blocks next.block) there) 0 (start-end next.end (length_of n.blocks next.block))) h

turned-lies : (n : Network) (t : TrainState) (i : ℕ) (none : TurnoutState) → IsTrue (is_sound n) → is_on_track n.blocks t.rear ≡ true → spans n t ≡ true → i < length n.turnouts
    → lies_over n t (slice_index_or n.turnouts i none) ≡ true → reaches n (turned_place t.front) (span t) (slice_index_or n.turnouts i none) ≡ true
turned-lies n t i none is on_track h less lies = elim (onward-cases (onward n q)) [
  | inl next ↦
      let ends = and_parts (to_end (length_of n.blocks q.block) q == 0) (is_end_of (end_ahead q) state) found.leaves in
      let none_ahead : to_end (length_of n.blocks q.block) q ≡ 0 = eqb-true (to_end (length_of n.blocks q.block) q) 0 ends.0 in
      let led = leads-to n.blocks (exit_of n (end_ahead q)) next.0 (sym (onward-end n q none_ahead) ∙ next.1) in
      let own_end : is_end_of led.0 state ≡ true = same-turnout n i none (end_ahead q) led.0 is less ends.1 led.1 in
      let on_next : is_on_track n.blocks next.0 ≡ true = onward-on_track n q next.0 is (way-on_track n t.rear q found.part is on_track found.there) next.1 in
      let back : way_on n (turned_place t.front) rest ≡ Some (turned_place next.0) = way-back n next.0 t.front rest is on_next (sym (way_on-suc n q next.0 rest next.1) ∙ ahead) in
      reaches-there n (turned_place t.front) (turned_place next.0) (span t) rest state (omega (arith, found.within)) back
      (subst (λ (p : Place). leaves_at (λ end. is_end_of end state) n (turned_place p) ≡ true) led.2 (behind-start n led.0 state own_end))
  | inr ends ↦ absurd (none-some t.front (sym (way_on-ends n q (suc rest) (omega arith) ends) ∙ ahead))
] where
  state : TurnoutState
  state = slice_index_or n.turnouts i none

  found : Met n t.rear (span t) state
  found = met n t.rear (span t) state lies

  q : Place
  q = found.place

  rest : ℕ
  rest = span t - found.part - 1

  ahead : way_on n q (suc rest) ≡ Some t.front
  ahead =
      let all : found.part + suc rest ≡ span t = omega (arith, found.within) in
      sym (ap (λ (o : Option Place). option_and_then (λ p. way_on n p (suc rest)) o) found.there) ∙ sym (way_on-add n t.rear found.part (suc rest))
      ∙ ap (λ (w : ℕ). way_on n t.rear w) all ∙ spans-way n t h

-- A train without momentum at each moment.

next-is : (running : Running) (t : TrainState) → t.momentum ≡ None → next_velocity_of running t ≡ velocity running.forward (speed_at t.top running.motion)
next-is running t h = ap (λ (m : Option Momentum). next_velocity_by m (drive_of t (Some running)) t.velocity) (no-momentum (Some running) t.momentum h)

module _ (n : Network) (running : Running) (t : TrainState) (is : IsTrue (is_sound n)) (h : is_train n t ≡ true) (rails : is_derailed t ≡ false) (none : t.momentum ≡ None) where
  abbrev speed : ℕ
  speed = speed_at t.top running.motion

  abbrev start : Place
  start = trailing_end running.forward t

  record At (moment : ℕ) (u : TrainState) : Type 0 where
    leads : LeadsWithin n start (speed * moment) (trailing_end running.forward u)
    spanned : spans n u ≡ true
    momentum : u.momentum ≡ None
    top : u.top ≡ t.top
    length : u.length ≡ t.length
    train : is_train n u ≡ true

  velocity-at : (u : TrainState) → u.momentum ≡ None → u.top ≡ t.top → next_velocity_of running u ≡ velocity running.forward speed
  velocity-at u momentum top = next-is running u momentum ∙ ap (λ (most : ℕ). velocity running.forward (speed_at most running.motion)) top

  on-by : (u : TrainState) → is_derailed u ≡ false → u.momentum ≡ None → u.top ≡ t.top
      → run_for n 1 (Some running) u ≡ marked n (run_by n running.forward speed (record u { velocity = velocity running.forward speed }))
  on-by u on_rails momentum top =
      for-rails n 1 (Some running) u on_rails
      ∙ ap (λ (w : TrainState). marked n w)
      (one-ridden n (drive_of u (Some running)) u
      ∙ moved-rails n (next_velocity_of running u) (next_velocity_of running u).speed u on_rails
      ∙ ap (λ (v : Velocity). run_by n v.forward v.speed (record u { velocity = v })) (velocity-at u momentum top))

  marked-end : (forward : Bool) (u : TrainState) → trailing_end forward (marked n u) ≡ trailing_end forward u
  marked-end true u = refl
  marked-end false u = refl

  other-end : (forward : Bool) (v : Velocity) (u : TrainState) → trailing_end forward (record u { velocity = v }) ≡ trailing_end forward u
  other-end true v u = refl
  other-end false v u = refl

  one-leads : (u : TrainState) → u.momentum ≡ None → u.top ≡ t.top → LeadsWithin n (trailing_end running.forward u) speed (trailing_end running.forward (run_for n 1 (Some running) u))
  one-leads u momentum top = elim (cases_Bool (is_derailed u)) [
    | inl derailed ↦
        subst (λ (w : TrainState). LeadsWithin n (trailing_end running.forward u) speed (trailing_end running.forward w)) (sym (for-derailed n 1 (Some running) u derailed))
        (leads-here n (trailing_end running.forward u) speed)
    | inr on_rails ↦
        let v : Velocity = velocity running.forward speed in
        let w : TrainState = run_by n running.forward speed (record u { velocity = v }) in
        subst (λ (x : TrainState). LeadsWithin n (trailing_end running.forward u) speed (trailing_end running.forward x)) (sym (on-by u on_rails momentum top))
        (subst (λ (q : Place). LeadsWithin n (trailing_end running.forward u) speed q) (sym (marked-end running.forward w))
        (subst (λ (p : Place). LeadsWithin n p speed (trailing_end running.forward w)) (other-end running.forward v u) (by-leads n running.forward speed (record u { velocity = v }))))
  ]

  one-spans : (u : TrainState) → is_train n u ≡ true → spans n u ≡ true → u.momentum ≡ None → u.top ≡ t.top → spans n (run_for n 1 (Some running) u) ≡ true
  one-spans u train spanned momentum top = elim (cases_Bool (is_derailed u)) [
    | inl derailed ↦ ap (λ (w : TrainState). spans n w) (for-derailed n 1 (Some running) u derailed) ∙ spanned
    | inr on_rails ↦
        let parts = parts-of n u train in
        ap (λ (w : TrainState). spans n w) (on-by u on_rails momentum top)
        ∙ by-spans n running.forward speed (record u { velocity = velocity running.forward speed }) is (and_from _ _ parts.front parts.rear) spanned
  ]

  one-at : (moment : ℕ) (u : TrainState) → At moment u → At (suc moment) (run_for n 1 (Some running) u)
  one-at moment u a =
      let next : TrainState = run_for n 1 (Some running) u in
      let same = for-same n 1 running u in
      let more : speed * suc moment ≡ speed * moment + speed = mul-suc speed moment in
      record {
        leads = subst (λ (way : ℕ). LeadsWithin n start way (trailing_end running.forward next)) (sym more)
            (leads-then n start (trailing_end running.forward u) (trailing_end running.forward next) (speed * moment) speed a.leads (one-leads u a.momentum a.top));
        spanned = one-spans u a.train a.spanned a.momentum a.top;
        momentum = same.momentum ∙ a.momentum;
        top = same.top ∙ a.top;
        length = same.length ∙ a.length;
        train = for-train n 1 running u is a.train;
      }

  all-at : (moment : ℕ) → At moment (run_for n moment (Some running) t)
  all-at zero =
      subst (λ (u : TrainState). At 0 u) (sym (for-zero n (Some running) t h))
      (record { leads = leads-here n start (speed * 0); spanned = (whole-of n t (parts-of n t h).whole rails).spanned; momentum = none; top = refl; length = refl; train = h })
  all-at (suc moment) =
      let one : moment + 1 ≡ suc moment = omega arith in
      subst (λ (u : TrainState). At (suc moment) u) (for-for n running moment 1 t ∙ ap (λ (k : ℕ). run_for n k (Some running) t) one)
      (one-at moment (run_for n moment (Some running) t) (all-at moment))

  meets : (micros moment way : ℕ) (state : TurnoutState) → Met n (trailing_end running.forward (run_for n moment (Some running) t)) way state → way + speed * moment ≤ span t + speed * micros
      → reaches n start (span t + speed * micros) state ≡ true
  meets micros moment way state found less =
      let at = (all-at moment).leads in
      reaches-there n start found.place (span t + speed * micros) (at.part + found.part) state (omega (arith, at.within, found.within, less))
      (way-then n start (trailing_end running.forward (run_for n moment (Some running) t)) found.place at.part found.part at.there found.there) found.leaves

  same-span : (u : TrainState) → u.length ≡ t.length → span u ≡ span t
  same-span u same = ap (λ (length : ℕ). length * 1000000000000 - 1) same

  pub reached : (micros i : ℕ) (no_state : TurnoutState) → i < length n.turnouts → IsOnWayOf n running micros t (slice_index_or n.turnouts i no_state)
      → reaches n start (span t + way_asked running micros t) (slice_index_or n.turnouts i no_state) ≡ true
  reached micros i no_state less on = elim on.met [
    | inl lies ↦
        meets micros on.moment (span u) state (by running.forward lies)
        (let most : speed * on.moment ≤ speed * micros = mul-le-mul_left speed on.within in omega (arith, most, same-span u a.length))
    | inr runs ↦
        let v : Velocity = velocity running.forward speed in
        let over : reaches n (trailing_end running.forward u) (span u + speed) state ≡ true =
        subst (λ (x : Velocity). reaches n (trailing_end x.forward u) (span u + x.speed) state ≡ true) (velocity-at u a.momentum a.top) runs.1 in
        let next : suc on.moment ≤ micros = omega (arith, runs.0) in
        let most : speed * suc on.moment ≤ speed * micros = mul-le-mul_left speed next in
        meets micros on.moment (span u + speed) state (met n (trailing_end running.forward u) (span u + speed) state over)
        (omega (arith, most, same-span u a.length, mul-suc speed on.moment))
  ] where
    u : TrainState
    u = run_for n on.moment (Some running) t

    state : TurnoutState
    state = slice_index_or n.turnouts i no_state

    a : At on.moment u
    a = all-at on.moment

    by : (forward : Bool) → lies_over n u state ≡ true → Met n (trailing_end forward u) (span u) state
    by true lies = met n u.rear (span u) state lies
    by false lies = met n (turned_place u.front) (span u) state (turned-lies n u i no_state is (parts-of n u a.train).rear a.spanned less lies)
