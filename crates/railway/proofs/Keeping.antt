-- Trains stay on the rails from their rear to their front, or are derailed.
use Rattle.std.proofs.Common.{◌≡◌, ℕ, zero, suc, ◌&&◌, ◌||◌, Bool, true, false, inl, inr, List, [], ◌∷◌, Option, Some, None, refl, ap, sym, subst, ◌∙◌}
use Rattle.std.proofs.lemmas.Bool.{and_from, and_parts, cases_Bool, eq-eqb, eqb-true}
use Rattle.std.specs.Bool.{beq}
use Rattle.std.specs.Cmp.Lexicographic.{pointwise}
use Rattle.std.specs.Option.{option_eq}
use Rattle.std.specs.Prelude.{IsTrue, nat_eq, nat_le}
use Rattle.railway.specs.declared.exit.Onward.{Onward}
use Rattle.railway.specs.declared.exit.Onward.TheVariants.{To, BufferStop, Against}
use Rattle.railway.specs.declared.train.Place.{Place}
use Rattle.railway.specs.declared.train.TrainState.{TrainState}
use Rattle.railway.specs.Blocks.{same_end}
use Rattle.railway.specs.Network.{Network, is_sound, is_whole, marked, off_rails, onward, run_on, spans, step, stepped, under, way_on}
use Rattle.railway.specs.Places.{is_derailed, is_on_track, same_place, span, turned}
use Rattle.railway.specs.Railway.{is_train}
use Rattle.railway.specs.Running.{is_within, run_by}
use Rattle.railway.specs.Trains.{is_movable}
use Rattle.railway.specs.Passing.{is_slow}
use Rattle.railway.proofs.Joining.{same_end-self, same_end-true}
use Rattle.railway.proofs.Turning.{onward-on_track, way-back, way_on-snoc}
use Rattle.railway.proofs.Ways.{step-derailed, step-onward, way_on-suc}
use Rattle.railway.proofs.Facts.{or-right-true, or-left-true}

-- The way from the rear of a train to its front.

same_place-true : (p q : Place) → same_place p q ≡ true → p ≡ q
same_place-true p q h =
    let parts = and_parts (nat_eq p.block q.block && nat_eq p.at q.at) (same_end p.toward q.toward) h in
    let first = and_parts (nat_eq p.block q.block) (nat_eq p.at q.at) parts.0 in
    ap (λ (b : ℕ). record p { block = b }) (eqb-true p.block q.block first.0)
    ∙ ap (λ (at : ℕ). record p { block = q.block; at = at }) (eqb-true p.at q.at first.1)
    ∙ ap (λ (e : _). record q { toward = e }) (same_end-true p.toward q.toward parts.1)

same_place-self : (p : Place) → same_place p p ≡ true
same_place-self p =
    and_from (nat_eq p.block p.block && nat_eq p.at p.at) (same_end p.toward p.toward)
    (and_from (nat_eq p.block p.block) (nat_eq p.at p.at) (eq-eqb p.block p.block refl) (eq-eqb p.at p.at refl)) (same_end-self p.toward)

reaches : (found : Option Place) (p : Place) → option_eq same_place found (Some p) ≡ true → found ≡ Some p
reaches None p h = cc
reaches (Some q) p h = ap (λ (r : Place). Some r) (same_place-true q p h)

pub spans-way : (n : Network) (t : TrainState) → spans n t ≡ true → way_on n t.rear (span t) ≡ Some t.front
spans-way n t h = reaches (way_on n t.rear (span t)) t.front h

pub way-spans : (n : Network) (t : TrainState) → way_on n t.rear (span t) ≡ Some t.front → spans n t ≡ true
way-spans n t h = ap (λ (o : Option Place). option_eq same_place o (Some t.front)) h ∙ same_place-self t.front

-- it does, or the train is derailed
abbrev pub is_spanned : Network → TrainState → Bool
is_spanned n t = is_derailed t || spans n t

pub spanned-spans : (n : Network) (t : TrainState) → is_spanned n t ≡ true → is_derailed t ≡ false → spans n t ≡ true
spanned-spans n t h g = sym (ap (λ (b : Bool). b || spans n t) g) ∙ h

pub spans-spanned : (n : Network) (t : TrainState) → spans n t ≡ true → is_spanned n t ≡ true
spans-spanned n t h = or-right-true (is_derailed t) (spans n t) h

-- One femtometre.

-- both ends of a train that spans its length go on over it
pub step-spans : (n : Network) (t : TrainState) (front rear : Place) → spans n t ≡ true → onward n t.front ≡ To front → onward n t.rear ≡ To rear
    → way_on n rear (span t) ≡ Some front
step-spans n t front rear h f r = sym (way_on-suc n t.rear rear (span t) r) ∙ way_on-snoc n t.rear t.front front (span t) (spans-way n t h) f

-- what holds of a train that stands holds after a step, and what holds of one that goes on or derails
pub by-step : (P : TrainState → Type 0) (n : Network) (t : TrainState) → P t → (onward n t.front ≡ Against → P (off_rails n t.front t))
    → ((front rear : Place) → is_derailed t ≡ false → onward n t.front ≡ To front → onward n t.rear ≡ To rear → P (record t { front = front; rear = rear })) → P (step n t)
by-step P n t stands derails goes = elim (cases_Bool (is_derailed t)) [
  | inl derailed ↦ subst P (sym (step-derailed n t derailed)) stands
  | inr rails ↦ subst P (sym (step-onward n t (onward n t.front) (onward n t.rear) rails refl refl)) (ends (onward n t.front) (onward n t.rear) refl refl rails)
] where
  ends : (front rear : Onward) → onward n t.front ≡ front → onward n t.rear ≡ rear → is_derailed t ≡ false → P (stepped n t front rear)
  ends (To front) (To rear) f r rails = goes front rear rails f r
  ends (To front) BufferStop f r rails = stands
  ends (To front) Against f r rails = stands
  ends BufferStop rear f r rails = stands
  ends Against rear f r rails = derails f

step-spanned : (n : Network) (t : TrainState) → is_spanned n t ≡ true → is_spanned n (step n t) ≡ true
step-spanned n t h =
    by-step (λ (u : TrainState). is_spanned n u ≡ true) n t h (λ _. refl)
    (λ front rear rails f r. spans-spanned n (record t { front = front; rear = rear }) (way-spans n (record t { front = front; rear = rear }) (step-spans n t front rear (spanned-spans n t h rails) f r)))

run-spanned : (n : Network) (t : TrainState) (way : ℕ) → is_spanned n t ≡ true → is_spanned n (run_on n t way) ≡ true
unfolding run_on
run-spanned n t zero h = h
run-spanned n t (suc way) h = run-spanned n (step n t) way (step-spanned n t h)

step-within : (n : Network) (t : TrainState) → IsTrue (is_sound n) → is_within n.blocks t ≡ true → is_within n.blocks (step n t) ≡ true
step-within n t is h =
    let parts = and_parts (is_on_track n.blocks t.front) (is_on_track n.blocks t.rear) h in
    by-step (λ (u : TrainState). is_within n.blocks u ≡ true) n t h (λ _. h)
    (λ front rear rails f r. and_from (is_on_track n.blocks front) (is_on_track n.blocks rear) (onward-on_track n t.front front is parts.0 f) (onward-on_track n t.rear rear is parts.1 r))

pub run-within : (n : Network) (t : TrainState) (way : ℕ) → IsTrue (is_sound n) → is_within n.blocks t ≡ true → is_within n.blocks (run_on n t way) ≡ true
unfolding run_on
run-within n t zero is h = h
run-within n t (suc way) is h = run-within n (step n t) way is (step-within n t is h)

-- With the rear ahead.

pub turned-within : (n : Network) (t : TrainState) → is_within n.blocks t ≡ true → is_within n.blocks (turned t) ≡ true
turned-within n t h =
    let parts = and_parts (is_on_track n.blocks t.front) (is_on_track n.blocks t.rear) h in
    and_from (is_on_track n.blocks t.rear) (is_on_track n.blocks t.front) parts.1 parts.0

pub turned-spans : (n : Network) (t : TrainState) → IsTrue (is_sound n) → is_within n.blocks t ≡ true → spans n t ≡ true → spans n (turned t) ≡ true
turned-spans n t is h g =
    let parts = and_parts (is_on_track n.blocks t.front) (is_on_track n.blocks t.rear) h in
    way-spans n (turned t) (way-back n t.rear t.front (span t) is parts.1 (spans-way n t g))

turned-spanned : (n : Network) (t : TrainState) → IsTrue (is_sound n) → is_within n.blocks t ≡ true → is_spanned n t ≡ true → is_spanned n (turned t) ≡ true
turned-spanned n t is h g = elim (cases_Bool (is_derailed t)) [
  | inl derailed ↦ or-left-true (is_derailed t) (spans n (turned t)) derailed
  | inr rails ↦ spans-spanned n (turned t) (turned-spans n t is h (spanned-spans n t g rails))
]

-- A train as its decoder runs.

-- what stays of a train while it runs, beside the blocks that it knows
pub record Kept (n : Network) (t : TrainState) : Type 0 where
  pub within : is_within n.blocks t ≡ true
  pub spanned : is_spanned n t ≡ true

pub run_by-kept : (n : Network) (forward : Bool) (way : ℕ) (t : TrainState) → IsTrue (is_sound n) → Kept n t → Kept n (run_by n forward way t)
run_by-kept n true way t is h = record { within = run-within n t way is h.within; spanned = run-spanned n t way h.spanned }
run_by-kept n false way t is h =
    let back : TrainState = run_on n (turned t) way in
    let within : is_within n.blocks back ≡ true = run-within n (turned t) way is (turned-within n t h.within) in
    let spanned : is_spanned n back ≡ true = run-spanned n (turned t) way (turned-spanned n t is h.within h.spanned) in
    record { within = turned-within n back within; spanned = turned-spanned n back is within spanned }

-- The blocks that a train knows.

same-bool : (one two : Bool) → beq one two ≡ true → one ≡ two
same-bool true true h = refl
same-bool true false h = cc
same-bool false true h = cc
same-bool false false h = refl

same-bool-self : (b : Bool) → beq b b ≡ true
same-bool-self true = refl
same-bool-self false = refl

pub same-marks : (one two : List Bool) → pointwise beq one two ≡ true → one ≡ two
same-marks [] [] h = refl
same-marks [] (y ∷ ys) h = cc
same-marks (x ∷ xs) [] h = cc
same-marks (x ∷ xs) (y ∷ ys) h =
    let parts = and_parts (beq x y) (pointwise beq xs ys) h in
    ap (λ (b : Bool). b ∷ xs) (same-bool x y parts.0) ∙ ap (λ (m : List Bool). y ∷ m) (same-marks xs ys parts.1)

pub marks-self : (m : List Bool) → pointwise beq m m ≡ true
marks-self [] = refl
marks-self (x ∷ xs) = and_from (beq x x) (pointwise beq xs xs) (same-bool-self x) (marks-self xs)

-- a train on the rails that is whole spans its length, and knows the blocks under it
pub record Whole (n : Network) (t : TrainState) : Type 0 where
  pub spanned : spans n t ≡ true
  pub knows : t.under ≡ under n t

pub whole-of : (n : Network) (t : TrainState) → is_whole n t ≡ true → is_derailed t ≡ false → Whole n t
whole-of n t h rails =
    let parts = and_parts (spans n t) (pointwise beq (under n t) t.under) (sym (ap (λ (b : Bool). b || (spans n t && pointwise beq (under n t) t.under)) rails) ∙ h) in
    record { spanned = parts.0; knows = sym (same-marks (under n t) t.under parts.1) }

pub whole-from : (n : Network) (t : TrainState) → Whole n t → is_whole n t ≡ true
whole-from n t h =
    or-right-true (is_derailed t) (spans n t && pointwise beq (under n t) t.under)
    (and_from (spans n t) (pointwise beq (under n t) t.under) h.spanned (ap (λ (m : List Bool). pointwise beq (under n t) m) h.knows ∙ marks-self (under n t)))

pub derailed-whole : (n : Network) (t : TrainState) → is_derailed t ≡ true → is_whole n t ≡ true
derailed-whole n t h = or-left-true (is_derailed t) (spans n t && pointwise beq (under n t) t.under) h

pub whole-spanned : (n : Network) (t : TrainState) → is_whole n t ≡ true → is_spanned n t ≡ true
whole-spanned n t h = elim (cases_Bool (is_derailed t)) [
  | inl derailed ↦ or-left-true (is_derailed t) (spans n t) derailed
  | inr rails ↦ spans-spanned n t (whole-of n t h rails).spanned
]

-- it is whole when it knows them
pub marked-whole : (n : Network) (t : TrainState) → is_spanned n t ≡ true → is_whole n (marked n t) ≡ true
marked-whole n t h = elim (cases_Bool (is_derailed t)) [
  | inl derailed ↦ derailed-whole n (marked n t) derailed
  | inr rails ↦ whole-from n (marked n t) (record { spanned = spanned-spans n t h rails; knows = refl })
]

pub train-from : (n : Network) (t : TrainState) → nat_le 1 t.length ≡ true → is_within n.blocks t ≡ true → is_whole n t ≡ true → is_movable t ≡ true → is_slow n.blocks t ≡ true → is_train n t ≡ true
train-from n t length within whole movable slow =
    and_from (nat_le 1 t.length && is_within n.blocks t && is_whole n t && is_movable t) (is_slow n.blocks t)
    (and_from (nat_le 1 t.length && is_within n.blocks t && is_whole n t) (is_movable t)
    (and_from (nat_le 1 t.length && is_within n.blocks t) (is_whole n t) (and_from (nat_le 1 t.length) (is_within n.blocks t) length within) whole) movable) slow
