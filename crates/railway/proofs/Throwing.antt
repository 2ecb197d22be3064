-- Turnouts that are thrown, and trains over them.
use Rattle.std.proofs.Common.{◌≡◌, ℕ, zero, suc, ◌+◌, ◌-◌, ◌*◌, ◌%◌, ◌<◌, ◌≤◌, ◌==◌, ◌&&◌, ◌||◌, Bool, true, false, not, inl, inr, List, [], ◌∷◌, Option, Some, None, map, refl, ap, sym, subst, ◌∙◌, arith}
use Rattle.std.proofs.lemmas.Bool.{and_from, and_parts, cases_Bool, eqb-true, ne_eqb}
use Rattle.std.specs.List.{list_all, list_any}
use Rattle.std.specs.Option.{option_and_then, option_or}
use Rattle.std.specs.Prelude.{if◌then◌else◌, slice_set}
use Rattle.layout_core.specs.declared.node.Node.{Node}
use Rattle.railway.specs.declared.block.BlockEnd.{BlockEnd}
use Rattle.railway.specs.declared.exit.Exit.{Exit}
use Rattle.railway.specs.declared.exit.Onward.{Onward}
use Rattle.railway.specs.declared.exit.Onward.TheVariants.{To}
use Rattle.railway.specs.declared.joint.Joint.{Joint}
use Rattle.railway.specs.declared.joint.Turnout.{Turnout}
use Rattle.railway.specs.declared.joint.TurnoutState.{TurnoutState}
use Rattle.railway.specs.declared.train.Place.{Place}
use Rattle.railway.specs.declared.train.TrainState.{TrainState}
use Rattle.railway.specs.Blocks.{length_of, no_blocks, same_block_end}
use Rattle.railway.specs.Network.{LeadsOn, Network, across, as_joint, covered, exit_of, exit_to, first_at, is_against, is_branch, is_end_of, is_moving, joined, joints_of, last_by, last_on, leaves_at, off_rails, onward, onward_by, partner, place_of, way_on}
use Rattle.railway.specs.Places.{end_ahead, further, is_derailed, span, to_end}
use Rattle.railway.specs.Railway.{is_train}
use Rattle.railway.specs.Running.{is_within}
use Rattle.railway.specs.Turnouts.{asked, came_on, checked, derailed_at, is_changed, is_moved, is_on, laid, observed, outputs_in, pair_of, same_bool, seen_of, side_of, thrown_under}
use Rattle.railway.proofs.Covering.{covered-ends, covered-suc, covered-zero}
use Rattle.railway.proofs.Facts.{none-some, or-left, or-none, or-right}
use Rattle.railway.proofs.Joining.{across-none}
use Rattle.railway.proofs.Keeping.{derailed-whole, spans-way, train-from, way-spans, whole-from, whole-of}
use Rattle.railway.proofs.Leading.{partner-append}
use Rattle.railway.proofs.Riding.{Same, same-self, still-movable}
use Rattle.railway.proofs.Slow.{still-slow}
use Rattle.railway.proofs.Runs.{parts-of}
use Rattle.railway.proofs.Turning.{onward-cases, onward-end}
use Rattle.railway.proofs.Ways.{further-suc, further-zero, left_to-moved, onward-within, way_on-ends, way_on-suc}

-- The first place at which a way goes on over such an end.

first-here : (is : BlockEnd → Bool) (n : Network) (p : Place) (way : ℕ) → leaves_at is n p ≡ true → first_at is n p (suc way) ≡ Some p
unfolding first_at
first-here is n p way h = ap (λ (b : Bool). if b then Some p else option_and_then (λ next. first_at is n next way) (place_of (onward n p))) h

pub first-other : (is : BlockEnd → Bool) (n : Network) (p : Place) (way : ℕ) → leaves_at is n p ≡ false → first_at is n p (suc way) ≡ option_and_then (λ next. first_at is n next way) (place_of (onward n p))
unfolding first_at
first-other is n p way h = ap (λ (b : Bool). if b then Some p else option_and_then (λ next. first_at is n next way) (place_of (onward n p))) h

pub first-next : (is : BlockEnd → Bool) (n : Network) (p q : Place) (way : ℕ) → leaves_at is n p ≡ false → onward n p ≡ To q → first_at is n p (suc way) ≡ first_at is n q way
first-next is n p q way h g = first-other is n p way h ∙ ap (λ (o : Onward). option_and_then (λ next. first_at is n next way) (place_of o)) g

pub first-zero : (is : BlockEnd → Bool) (n : Network) (p : Place) → first_at is n p 0 ≡ None
unfolding first_at
first-zero is n p = refl

pub first-found : (is : BlockEnd → Bool) (n : Network) (p : Place) (way : ℕ) → 0 < way → leaves_at is n p ≡ true → first_at is n p way ≡ Some p
first-found is n p way goes h =
    let whole : way ≡ suc (way - 1) = omega (arith, goes) in
    ap (λ (w : ℕ). first_at is n p w) whole ∙ first-here is n p (way - 1) h

pub first-ends : (is : BlockEnd → Bool) (n : Network) (p : Place) (way : ℕ) → leaves_at is n p ≡ false → place_of (onward n p) ≡ None → first_at is n p way ≡ None
first-ends is n p zero h g = first-zero is n p
first-ends is n p (suc way) h g = first-other is n p way h ∙ ap (λ (o : Option Place). option_and_then (λ next. first_at is n next way) o) g

-- in a block it is at none
leaves-none : (is : BlockEnd → Bool) (n : Network) (p : Place) → 0 < to_end (length_of n.blocks p.block) p → leaves_at is n p ≡ false
leaves-none is n p h = ap (λ (b : Bool). b && is (end_ahead p)) (ne_eqb (to_end (length_of n.blocks p.block) p) 0 (λ e. omega (arith, h, e)))

pub first-part : (is : BlockEnd → Bool) (n : Network) (p : Place) (part way : ℕ) → part ≤ way → part ≤ to_end (length_of n.blocks p.block) p → first_at is n p way ≡ first_at is n (further p part) (way - part)
first-part is n p zero way less h =
    let all : way ≡ way - 0 = omega arith in
    ap (λ (w : ℕ). first_at is n p w) all ∙ ap (λ (q : Place). first_at is n q (way - 0)) (further-zero p)
first-part is n p (suc part) way less h =
    let whole : way ≡ suc (way - 1) = omega (arith, less) in
    let rest : way - 1 - part ≡ way - suc part = omega arith in
    let goes : 0 < to_end (length_of n.blocks p.block) p = omega (arith, h) in
    ap (λ (w : ℕ). first_at is n p w) whole
    ∙ first-next is n p (further p 1) (way - 1) (leaves-none is n p goes) (onward-within n p goes)
    ∙ first-part is n (further p 1) part (way - 1) (omega (arith, less)) (left_to-moved p.toward (length_of n.blocks p.block) p.at part h)
    ∙ ap (λ (q : Place). first_at is n q (way - 1 - part)) (further-suc p part)
    ∙ ap (λ (w : ℕ). first_at is n (further p (suc part)) w) rest

pub first-goes : (is : BlockEnd → Bool) (n : Network) (p q : Place) (way left : ℕ) → leaves_at is n p ≡ false → LeadsOn n p way q left → first_at is n p way ≡ first_at is n q left
first-goes is n p q way left h (inl g) =
    first-part is n p g.part way g.within g.in_block ∙ ap (λ (r : Place). first_at is n r (way - g.part)) (sym g.there) ∙ ap (λ (w : ℕ). first_at is n q w) (sym g.rest)
first-goes is n p q way left h (inr g) =
    let whole : way ≡ suc left = omega (arith, g.rest) in
    ap (λ (w : ℕ). first_at is n p w) whole ∙ first-next is n p q left h g.on

pub first-leaves : (is : BlockEnd → Bool) (n : Network) (p q : Place) (way : ℕ) → first_at is n p way ≡ Some q → leaves_at is n q ≡ true
unfolding first_at
first-leaves is n p q zero h = absurd (none-some q h)
first-leaves is n p q (suc way) h = elim (cases_Bool (leaves_at is n p)) [
  | inl here ↦ subst (λ (r : Place). leaves_at is n r ≡ true) (some-place p q (sym (first-here is n p way here) ∙ h)) here
  | inr later ↦ elim (onward-cases (onward n p)) [
    | inl next ↦ first-leaves is n next.0 q way (sym (first-next is n p next.0 way later next.1) ∙ h)
    | inr ends ↦ absurd (none-some q (sym (first-ends is n p (suc way) later ends) ∙ h))
  ]
] where
  some-place : (r s : Place) → Some r ≡ Some s → r ≡ s
  some-place r s e = cc

some-none : (q : Place) → Some q ≡ None → ⊥
some-none q h = cc

-- if there is none, the way is at none to begin with
none-first : (is : BlockEnd → Bool) (n : Network) (p : Place) (way : ℕ) → first_at is n p (suc way) ≡ None → leaves_at is n p ≡ false
none-first is n p way h = elim (cases_Bool (leaves_at is n p)) [
  | inl here ↦ absurd (some-none p (sym (first-here is n p way here) ∙ h))
  | inr other ↦ other
]

-- nor further on
pub none-leaves : (is : BlockEnd → Bool) (n : Network) (p q : Place) (way part : ℕ) → first_at is n p way ≡ None → part < way → way_on n p part ≡ Some q → leaves_at is n q ≡ false
unfolding way_on
none-leaves is n p q zero part h less there = absurd (omega (arith, less))
none-leaves is n p q (suc way) zero h less there = subst (λ (r : Place). leaves_at is n r ≡ false) (some-place p q there) (none-first is n p way h) where
  some-place : (r s : Place) → Some r ≡ Some s → r ≡ s
  some-place r s e = cc
none-leaves is n p q (suc way) (suc part) h less there = elim (onward-cases (onward n p)) [
  | inl next ↦
      none-leaves is n next.0 q way part (sym (first-next is n p next.0 way (none-first is n p way h) next.1) ∙ h) (omega (arith, less))
      (sym (way_on-suc n p next.0 part next.1) ∙ there)
  | inr ends ↦ absurd (none-some q (sym (way_on-ends n p (suc part) (omega arith) ends) ∙ there))
]

-- a way that is at none
pub all-none : (is : BlockEnd → Bool) (n : Network) (p : Place) (way : ℕ) → ((part : ℕ) (q : Place) → part < way → way_on n p part ≡ Some q → leaves_at is n q ≡ false) → first_at is n p way ≡ None
unfolding way_on
all-none is n p zero h = first-zero is n p
all-none is n p (suc way) h =
    let other : leaves_at is n p ≡ false = h 0 p (omega arith) refl in
    elim (onward-cases (onward n p)) [
      | inl next ↦
          first-next is n p next.0 way other next.1
          ∙ all-none is n next.0 way (λ part q less there. h (suc part) q (omega (arith, less)) (way_on-suc n p next.0 part next.1 ∙ there))
      | inr ends ↦ first-ends is n p (suc way) other ends
    ]

-- The last place of a way.

last-next : (n : Network) (p q : Place) (way : ℕ) → onward n p ≡ To q → last_on n p (suc way) ≡ last_on n q way
unfolding last_on
last-next n p q way h = ap (λ (o : Onward). last_by (λ next. last_on n next way) p (place_of o)) h

pub last-zero : (n : Network) (p : Place) → last_on n p 0 ≡ p
unfolding last_on
last-zero n p = refl

pub last-ends : (n : Network) (p : Place) (way : ℕ) → place_of (onward n p) ≡ None → last_on n p way ≡ p
unfolding last_on
last-ends n p zero h = refl
last-ends n p (suc way) h = ap (λ (o : Option Place). last_by (λ next. last_on n next way) p o) h

last-part : (n : Network) (p : Place) (part way : ℕ) → part ≤ way → part ≤ to_end (length_of n.blocks p.block) p → last_on n p way ≡ last_on n (further p part) (way - part)
last-part n p zero way less h =
    let all : way ≡ way - 0 = omega arith in
    ap (λ (w : ℕ). last_on n p w) all ∙ ap (λ (q : Place). last_on n q (way - 0)) (further-zero p)
last-part n p (suc part) way less h =
    let whole : way ≡ suc (way - 1) = omega (arith, less) in
    let rest : way - 1 - part ≡ way - suc part = omega arith in
    ap (λ (w : ℕ). last_on n p w) whole
    ∙ last-next n p (further p 1) (way - 1) (onward-within n p (omega (arith, h)))
    ∙ last-part n (further p 1) part (way - 1) (omega (arith, less)) (left_to-moved p.toward (length_of n.blocks p.block) p.at part h)
    ∙ ap (λ (q : Place). last_on n q (way - 1 - part)) (further-suc p part)
    ∙ ap (λ (w : ℕ). last_on n (further p (suc part)) w) rest

pub last-goes : (n : Network) (p q : Place) (way left : ℕ) → LeadsOn n p way q left → last_on n p way ≡ last_on n q left
last-goes n p q way left (inl h) =
    last-part n p h.part way h.within h.in_block ∙ ap (λ (r : Place). last_on n r (way - h.part)) (sym h.there) ∙ ap (λ (w : ℕ). last_on n q w) (sym h.rest)
last-goes n p q way left (inr h) =
    let whole : way ≡ suc left = omega (arith, h.rest) in
    ap (λ (w : ℕ). last_on n p w) whole ∙ last-next n p q left h.on

-- A track of which turnouts are changed leads where it did, but from the ends of those.

-- a turnout that leads where another one leads
pub record Alike (state next : TurnoutState) : Type 0 where
  pub turnout : next.turnout ≡ state.turnout
  pub thrown : next.is_thrown ≡ state.is_thrown
  pub moving : is_moving next ≡ is_moving state

-- turnouts are changed, and all but these lead where they did
pub record Changes (f : TurnoutState → TurnoutState) (is : TurnoutState → Bool) : Type 0 where
  pub keeps : (state : TurnoutState) → (f state).turnout ≡ state.turnout
  pub others : (state : TurnoutState) → is state ≡ false → Alike state (f state)

-- the end is one of a turnout that is one of these
abbrev pub end_of_any : (TurnoutState → Bool) → List TurnoutState → BlockEnd → Bool
end_of_any is states end = list_any (λ state. is_end_of end state && is state) states

abbrev pub changed : (TurnoutState → TurnoutState) → Network → Network
changed f n = record n { turnouts = map f n.turnouts }

across-other : (state : TurnoutState) (end : BlockEnd) → is_end_of end state ≡ false → across (as_joint state) end ≡ None
across-other state end h =
    let common = or-left (same_block_end state.turnout.common end) (is_branch end state) h in
    let branch = or-right (same_block_end state.turnout.common end) (is_branch end state) h in
    let closed = or-left (same_block_end state.turnout.closed end) (same_block_end state.turnout.thrown end) branch in
    let is_thrown = or-right (same_block_end state.turnout.closed end) (same_block_end state.turnout.thrown end) branch in
    across-none (as_joint state) end common (either state.is_thrown closed is_thrown) where
      either : (b : Bool) → same_block_end state.turnout.closed end ≡ false → same_block_end state.turnout.thrown end ≡ false
          → same_block_end (if b then state.turnout.thrown else state.turnout.closed) end ≡ false
      either true closed is_thrown = is_thrown
      either false closed is_thrown = closed

-- a turnout that has not the end does not count
skipped : (state : TurnoutState) (rest : List Joint) (end : BlockEnd) → is_end_of end state ≡ false → partner (if is_moving state then rest else as_joint state ∷ rest) end ≡ partner rest end
skipped state rest end h = by (is_moving state) where
  by : (b : Bool) → partner (if b then rest else as_joint state ∷ rest) end ≡ partner rest end
  by true = refl
  by false = ap (λ (o : Option BlockEnd). option_or o (partner rest end)) (across-other state end h)

same-ends : (state next : TurnoutState) (end : BlockEnd) → next.turnout ≡ state.turnout → is_end_of end next ≡ is_end_of end state
same-ends state next end h = ap (λ (t : Turnout). same_block_end t.common end || (same_block_end t.closed end || same_block_end t.thrown end)) h

alike-joint : (state next : TurnoutState) → Alike state next → as_joint next ≡ as_joint state
alike-joint state next h = ap (λ (t : Turnout). as_joint (record next { turnout = t })) h.turnout ∙ ap (λ (b : Bool). as_joint (record state { is_thrown = b })) h.thrown

same-first : (state next : TurnoutState) (rest these : List Joint) (end : BlockEnd) → Alike state next → partner rest end ≡ partner these end
    → partner (if is_moving next then rest else as_joint next ∷ rest) end ≡ partner (if is_moving state then these else as_joint state ∷ these) end
same-first state next rest these end h same =
    ap (λ (b : Bool). partner (if b then rest else as_joint next ∷ rest) end) h.moving
    ∙ ap (λ (j : Joint). partner (if is_moving state then rest else j ∷ rest) end) (alike-joint state next h)
    ∙ by (is_moving state) where
      by : (b : Bool) → partner (if b then rest else as_joint state ∷ rest) end ≡ partner (if b then these else as_joint state ∷ these) end
      by true = same
      by false = ap (λ (o : Option BlockEnd). option_or (across (as_joint state) end) o) same

same-partner : (f : TurnoutState → TurnoutState) (is : TurnoutState → Bool) → Changes f is → (states : List TurnoutState) (end : BlockEnd) → end_of_any is states end ≡ false → partner (joints_of (map f states)) end ≡ partner (joints_of states) end
same-partner f is c [] end h = refl
same-partner f is c (state ∷ states) end h =
    let this = or-left (is_end_of end state && is state) (end_of_any is states end) h in
    let rest = same-partner f is c states end (or-right (is_end_of end state && is state) (end_of_any is states end) h) in
    elim (cases_Bool (is_end_of end state)) [
      | inl has ↦ same-first state (f state) (joints_of (map f states)) (joints_of states) end (c.others state (sym (ap (λ (b : Bool). b && is state) has) ∙ this)) rest
      | inr other ↦
          skipped (f state) (joints_of (map f states)) end (same-ends state (f state) end (c.keeps state) ∙ other) ∙ rest
          ∙ sym (skipped state (joints_of states) end other)
    ]

not-against : (state : TurnoutState) (end : BlockEnd) → is_end_of end state ≡ false → is_against end state ≡ false
not-against state end h = by (is_moving state) where
  by : (b : Bool) → (if b then is_end_of end state else is_branch end state) ≡ false
  by true = h
  by false = or-right (same_block_end state.turnout.common end) (is_branch end state) h

alike-against : (state next : TurnoutState) (end : BlockEnd) → Alike state next → is_against end next ≡ is_against end state
alike-against state next end h =
    ap (λ (t : Turnout). is_against end (record next { turnout = t })) h.turnout ∙ ap (λ (b : Bool). if b then is_end_of end state else is_branch end state) h.moving

same-against : (f : TurnoutState → TurnoutState) (is : TurnoutState → Bool) → Changes f is → (states : List TurnoutState) (end : BlockEnd) → end_of_any is states end ≡ false → list_any (is_against end) (map f states) ≡ list_any (is_against end) states
same-against f is c [] end h = refl
same-against f is c (state ∷ states) end h =
    let this = or-left (is_end_of end state && is state) (end_of_any is states end) h in
    let rest = same-against f is c states end (or-right (is_end_of end state && is state) (end_of_any is states end) h) in
    ap (λ (b : Bool). b || list_any (is_against end) (map f states)) (one this) ∙ ap (λ (b : Bool). is_against end state || b) rest where
      one : (is_end_of end state && is state) ≡ false → is_against end (f state) ≡ is_against end state
      one this = elim (cases_Bool (is_end_of end state)) [
        | inl has ↦ alike-against state (f state) end (c.others state (sym (ap (λ (b : Bool). b && is state) has) ∙ this))
        | inr other ↦ not-against (f state) end (same-ends state (f state) end (c.keeps state) ∙ other) ∙ sym (not-against state end other)
      ]

pub same-exit : (f : TurnoutState → TurnoutState) (is : TurnoutState → Bool) → Changes f is → (n : Network) (end : BlockEnd) → end_of_any is n.turnouts end ≡ false → exit_of (changed f n) end ≡ exit_of n end
same-exit f is c n end h =
    ap (λ (b : Bool). exit_to (partner (joined (changed f n)) end) b) (same-against f is c n.turnouts end h)
    ∙ ap (λ (found : Option BlockEnd). exit_to found (list_any (is_against end) n.turnouts))
    (partner-append n.joints (joints_of (map f n.turnouts)) end
    ∙ ap (λ (o : Option BlockEnd). option_or (partner n.joints end) o) (same-partner f is c n.turnouts end h)
    ∙ sym (partner-append n.joints (joints_of n.turnouts) end))

pub same-onward : (f : TurnoutState → TurnoutState) (is : TurnoutState → Bool) → Changes f is → (n : Network) (p : Place) → leaves_at (end_of_any is n.turnouts) n p ≡ false → onward (changed f n) p ≡ onward n p
same-onward f is c n p h = elim (cases_Bool (to_end (length_of n.blocks p.block) p == 0)) [
  | inl ends ↦
      let none : to_end (length_of n.blocks p.block) p ≡ 0 = eqb-true (to_end (length_of n.blocks p.block) p) 0 ends in
      let other : end_of_any is n.turnouts (end_ahead p) ≡ false = sym (ap (λ (b : Bool). b && end_of_any is n.turnouts (end_ahead p)) ends) ∙ h in
      onward-end (changed f n) p none ∙ ap (λ (exit : Exit). onward_by n.blocks exit) (same-exit f is c n (end_ahead p) other) ∙ sym (onward-end n p none)
  | inr goes ↦
      ap (λ (b : Bool). if b then onward_by n.blocks (exit_of (changed f n) (end_ahead p)) else To (further p 1)) goes
      ∙ sym (ap (λ (b : Bool). if b then onward_by n.blocks (exit_of n (end_ahead p)) else To (further p 1)) goes)
]

-- A way over which no turnout is changed stays, with its blocks.

pub way-changed : (f : TurnoutState → TurnoutState) (is : TurnoutState → Bool) → Changes f is → (n : Network) (p : Place) (way : ℕ) → first_at (end_of_any is n.turnouts) n p way ≡ None → way_on (changed f n) p way ≡ way_on n p way
unfolding way_on
way-changed f is c n p zero h = refl
way-changed f is c n p (suc way) h =
    let other = none-first (end_of_any is n.turnouts) n p way h in
    let same = same-onward f is c n p other in
    elim (onward-cases (onward n p)) [
      | inl next ↦
          way_on-suc (changed f n) p next.0 way (same ∙ next.1)
          ∙ way-changed f is c n next.0 way (sym (first-next (end_of_any is n.turnouts) n p next.0 way other next.1) ∙ h)
          ∙ sym (way_on-suc n p next.0 way next.1)
      | inr ends ↦
          way_on-ends (changed f n) p (suc way) (omega arith) (ap (λ (o : Onward). place_of o) same ∙ ends)
          ∙ sym (way_on-ends n p (suc way) (omega arith) ends)
    ]

pub covered-changed : (f : TurnoutState → TurnoutState) (is : TurnoutState → Bool) → Changes f is → (n : Network) (p : Place) (way : ℕ) (m : List Bool) → first_at (end_of_any is n.turnouts) n p way ≡ None → covered (changed f n) p way m ≡ covered n p way m
covered-changed f is c n p zero m h = covered-zero (changed f n) p m ∙ sym (covered-zero n p m)
covered-changed f is c n p (suc way) m h =
    let other = none-first (end_of_any is n.turnouts) n p way h in
    let same = same-onward f is c n p other in
    elim (onward-cases (onward n p)) [
      | inl next ↦
          covered-suc (changed f n) p next.0 way m (same ∙ next.1)
          ∙ covered-changed f is c n next.0 way (slice_set m p.block true) (sym (first-next (end_of_any is n.turnouts) n p next.0 way other next.1) ∙ h)
          ∙ sym (covered-suc n p next.0 way m next.1)
      | inr ends ↦
          covered-ends (changed f n) p (suc way) m (ap (λ (o : Onward). place_of o) same ∙ ends)
          ∙ sym (covered-ends n p (suc way) m ends)
    ]

-- a train whose way is so stays whole
pub train-changed : (f : TurnoutState → TurnoutState) (is : TurnoutState → Bool) → Changes f is → (n : Network) (t : TrainState) → is_train n t ≡ true → (is_derailed t ≡ false → first_at (end_of_any is n.turnouts) n t.rear (span t) ≡ None)
    → is_train (changed f n) t ≡ true
train-changed f is c n t h none =
    let m : Network = changed f n in
    let parts = parts-of n t h in
    let within : is_within m.blocks t ≡ true = and_from _ _ parts.front parts.rear in
    elim (cases_Bool (is_derailed t)) [
      | inl derailed ↦ train-from m t parts.size within (derailed-whole m t derailed) parts.movable parts.slow
      | inr rails ↦
          let whole = whole-of n t parts.whole rails in
          let spanned = way-spans m t (way-changed f is c n t.rear (span t) (none rails) ∙ spans-way n t whole.spanned) in
          let knows = whole.knows ∙ sym (covered-changed f is c n t.rear (span t) no_blocks (none rails)) in
          train-from m t parts.size within (whole-from m t (record { spanned = spanned; knows = knows })) parts.movable parts.slow
    ]

-- Turnouts that their decoders move.

same-lies : (one two : Bool) → not (same_bool one two) ≡ false → one ≡ two
same-lies true true h = refl
same-lies true false h = cc
same-lies false true h = cc
same-lies false false h = refl

not-not : (b : Bool) → not b ≡ false → b ≡ true
not-not true h = refl
not-not false h = cc

pub laid-changes : (nodes : List Node) → Changes (observed nodes) (is_moved nodes)
laid-changes nodes = record {
  keeps = λ state. refl;
  others = λ state h.
      let side : Bool = (observed nodes state).is_thrown in
      record {
        turnout = refl;
        thrown = same-lies side state.is_thrown h;
        moving = ap (λ (b : Bool). not ((if b then state.left else state.turnout.time * 1000 - state.left) == 0)) (not-not (same_bool side state.is_thrown) h);
      };
}

-- A train whose track is checked.

pub checked-derailed : (nodes : List Node) (n : Network) (t : TrainState) → is_derailed t ≡ true → checked nodes n t ≡ t
checked-derailed nodes n t h = ap (λ (b : Bool). if b then t else derailed_at n t (thrown_under nodes n t)) h

checked-found : (nodes : List Node) (n : Network) (t : TrainState) (found : Option Place) → is_derailed t ≡ false → thrown_under nodes n t ≡ found → checked nodes n t ≡ derailed_at n t found
checked-found nodes n t found h g = ap (λ (b : Bool). if b then t else derailed_at n t (thrown_under nodes n t)) h ∙ ap (λ (o : Option Place). derailed_at n t o) g

pub checked-off : (nodes : List Node) (n : Network) (t : TrainState) (p : Place) → is_derailed t ≡ false → thrown_under nodes n t ≡ Some p → checked nodes n t ≡ off_rails n p t
checked-off nodes n t p h g = checked-found nodes n t (Some p) h g

pub checked-stays : (nodes : List Node) (n : Network) (t : TrainState) → thrown_under nodes n t ≡ None → checked nodes n t ≡ t
checked-stays nodes n t g = elim (cases_Bool (is_derailed t)) [
  | inl derailed ↦ checked-derailed nodes n t derailed
  | inr rails ↦ checked-found nodes n t None rails g
]

-- what holds of a train as it is holds of one that is checked, and what holds of one that is derailed
pub checked-by : (P : TrainState → Type 0) (nodes : List Node) (n : Network) (t : TrainState) → (is_derailed t ≡ true → P t) → (is_derailed t ≡ false → thrown_under nodes n t ≡ None → P t)
    → ((p : Place) → is_derailed t ≡ false → thrown_under nodes n t ≡ Some p → P (off_rails n p t)) → P (checked nodes n t)
checked-by P nodes n t was stays off = elim (cases_Bool (is_derailed t)) [
  | inl derailed ↦ subst P (sym (checked-derailed nodes n t derailed)) (was derailed)
  | inr rails ↦ either (thrown_under nodes n t) refl rails
] where
  either : (found : Option Place) → thrown_under nodes n t ≡ found → is_derailed t ≡ false → P (checked nodes n t)
  either None e rails = subst P (sym (checked-found nodes n t None rails e)) (stays rails e)
  either (Some p) e rails = subst P (sym (checked-found nodes n t (Some p) rails e)) (off p rails e)

pub checked-same : (nodes : List Node) (n : Network) (t : TrainState) → Same t (checked nodes n t)
checked-same nodes n t =
    checked-by (λ (u : TrainState). Same t u) nodes n t (λ _. same-self t) (λ _ _. same-self t) (λ p _ _. record { decoder = refl; top = refl; length = refl; momentum = refl })

-- it stays in its blocks
pub checked-under : (nodes : List Node) (n : Network) (t : TrainState) → (checked nodes n t).under ≡ t.under
checked-under nodes n t = checked-by (λ (u : TrainState). u.under ≡ t.under) nodes n t (λ _. refl) (λ _ _. refl) (λ p _ _. refl)

pub checked-train : (nodes : List Node) (n : Network) (t : TrainState) → is_train n t ≡ true → is_train (laid nodes n) (checked nodes n t) ≡ true
checked-train nodes n t h =
    let m : Network = laid nodes n in
    let parts = parts-of n t h in
    let within : is_within m.blocks t ≡ true = and_from _ _ parts.front parts.rear in
    checked-by (λ (u : TrainState). is_train m u ≡ true) nodes n t (λ derailed. train-from m t parts.size within (derailed-whole m t derailed) parts.movable parts.slow)
    (λ rails none. train-changed (observed nodes) (is_moved nodes) (laid-changes nodes) n t h (λ _. none))
    (λ p rails some. train-from m (off_rails n p t) parts.size within (derailed-whole m (off_rails n p t) refl) (still-movable t parts.movable) (still-slow n.blocks t parts.slow))

pub all-checked : (nodes : List Node) (n : Network) (ts : List TrainState) → list_all (is_train n) ts ≡ true → list_all (is_train (laid nodes n)) (map (checked nodes n) ts) ≡ true
all-checked nodes n [] h = refl
all-checked nodes n (t ∷ ts) h =
    let parts = and_parts (is_train n t) (list_all (is_train n) ts) h in
    and_from (is_train (laid nodes n) (checked nodes n t)) (list_all (is_train (laid nodes n)) (map (checked nodes n) ts)) (checked-train nodes n t parts.0) (all-checked nodes n ts parts.1)

-- Where no outputs are others than those that were seen last, no turnout is moved.

same-bool-self : (b : Bool) → same_bool b b ≡ true
same-bool-self true = refl
same-bool-self false = refl

none-came : (outputs output : ℕ) → came_on outputs outputs output ≡ false
none-came outputs output = by (is_on outputs output) where
  by : (b : Bool) → (b && not b) ≡ false
  by true = refl
  by false = refl

side-stays : (outputs pair : ℕ) (side : Bool) → side_of outputs (Some outputs) pair side ≡ side
side-stays outputs pair side =
    ap (λ (b : Bool). if same_bool b (came_on outputs outputs (2 * (pair % 4))) then side else came_on outputs outputs (2 * (pair % 4))) (none-came outputs (2 * (pair % 4) + 1))
    ∙ ap (λ (b : Bool). if same_bool false b then side else b) (none-came outputs (2 * (pair % 4)))

-- a turnout that is asked for its side stays
pub asked-same : (state : TurnoutState) → asked state.is_thrown state ≡ state
asked-same state = ap (λ (b : Bool). record state { left = if b then state.left else state.turnout.time * 1000 - state.left }) (same-bool-self state.is_thrown)

pub unchanged-observed : (nodes : List Node) (state : TurnoutState) → is_changed nodes state ≡ false → observed nodes state ≡ state
unchanged-observed nodes state h = by (outputs_in nodes state.decoder) (not-not _ h) where
  side : Option ℕ → Bool
  side found = if state.fails then state.is_thrown else side_of state.outputs found (pair_of state.turnout.switch) state.is_thrown

  either : (fails : Bool) → (if fails then state.is_thrown else state.is_thrown) ≡ state.is_thrown
  either true = refl
  either false = refl

  by : (found : Option ℕ) → (seen_of state.outputs found == state.outputs) ≡ true → record (asked (side found) state) { outputs = seen_of state.outputs found } ≡ state
  by None e = ap (λ (at : Bool). asked at state) (either state.fails) ∙ asked-same state
  by (Some is) e =
      ap (λ (o : ℕ). record (asked (side (Some o)) state) { outputs = o }) (eqb-true is state.outputs e)
      ∙ ap (λ (at : Bool). asked (if state.fails then state.is_thrown else at) state) (side-stays state.outputs (pair_of state.turnout.switch) state.is_thrown)
      ∙ ap (λ (at : Bool). asked at state) (either state.fails) ∙ asked-same state

unchanged-moved : (nodes : List Node) (state : TurnoutState) → is_changed nodes state ≡ false → is_moved nodes state ≡ false
unchanged-moved nodes state h =
    ap (λ (s : TurnoutState). not (same_bool s.is_thrown state.is_thrown)) (unchanged-observed nodes state h) ∙ ap (λ (b : Bool). not b) (same-bool-self state.is_thrown)

unchanged-all : (nodes : List Node) (states : List TurnoutState) → list_any (is_changed nodes) states ≡ false → map (observed nodes) states ≡ states
unchanged-all nodes [] h = refl
unchanged-all nodes (state ∷ states) h =
    ap (λ (s : TurnoutState). s ∷ map (observed nodes) states) (unchanged-observed nodes state (or-left (is_changed nodes state) (list_any (is_changed nodes) states) h))
    ∙ ap (λ (rest : List TurnoutState). state ∷ rest) (unchanged-all nodes states (or-right (is_changed nodes state) (list_any (is_changed nodes) states) h))

pub unchanged-laid : (nodes : List Node) (n : Network) → list_any (is_changed nodes) n.turnouts ≡ false → laid nodes n ≡ n
unchanged-laid nodes n h = ap (λ (states : List TurnoutState). record n { turnouts = states }) (unchanged-all nodes n.turnouts h)

pub unchanged-none : (nodes : List Node) (states : List TurnoutState) → list_any (is_changed nodes) states ≡ false → list_any (is_moved nodes) states ≡ false
unchanged-none nodes [] h = refl
unchanged-none nodes (state ∷ states) h =
    or-none (is_moved nodes state) (list_any (is_moved nodes) states) (unchanged-moved nodes state (or-left (is_changed nodes state) (list_any (is_changed nodes) states) h))
    (unchanged-none nodes states (or-right (is_changed nodes state) (list_any (is_changed nodes) states) h))

pub none-end : (is : TurnoutState → Bool) (states : List TurnoutState) (end : BlockEnd) → list_any is states ≡ false → end_of_any is states end ≡ false
none-end is [] end h = refl
none-end is (state ∷ states) end h =
    or-none (is_end_of end state && is state) (end_of_any is states end)
    (ap (λ (b : Bool). is_end_of end state && b) (or-left (is state) (list_any is states) h) ∙ and-false (is_end_of end state))
    (none-end is states end (or-right (is state) (list_any is states) h)) where
      and-false : (b : Bool) → (b && false) ≡ false
      and-false true = refl
      and-false false = refl

-- so no way is at one of their ends
pub none-first-at : (is : TurnoutState → Bool) (n : Network) (p : Place) (way : ℕ) → list_any is n.turnouts ≡ false → first_at (end_of_any is n.turnouts) n p way ≡ None
none-first-at is n p way h =
    all-none (end_of_any is n.turnouts) n p way (λ part q less there. leaves q) where
      leaves : (q : Place) → leaves_at (end_of_any is n.turnouts) n q ≡ false
      leaves q = ap (λ (b : Bool). to_end (length_of n.blocks q.block) q == 0 && b) (none-end is n.turnouts (end_ahead q) h) ∙ and-none (to_end (length_of n.blocks q.block) q == 0) where
        and-none : (b : Bool) → (b && false) ≡ false
        and-none true = refl
        and-none false = refl

pub unmoved-checked : (nodes : List Node) (n : Network) (t : TrainState) → list_any (is_moved nodes) n.turnouts ≡ false → checked nodes n t ≡ t
unmoved-checked nodes n t h = checked-stays nodes n t (none-first-at (is_moved nodes) n t.rear (span t) h)

pub unmoved-trains : (nodes : List Node) (n : Network) (ts : List TrainState) → list_any (is_moved nodes) n.turnouts ≡ false → map (checked nodes n) ts ≡ ts
unmoved-trains nodes n [] h = refl
unmoved-trains nodes n (t ∷ ts) h =
    ap (λ (u : TrainState). u ∷ map (checked nodes n) ts) (unmoved-checked nodes n t h) ∙ ap (λ (us : List TrainState). t ∷ us) (unmoved-trains nodes n ts h)
