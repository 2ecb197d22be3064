-- Ways along the track.
use Rattle.std.proofs.Common.{◌≡◌, ℕ, zero, suc, ◌+◌, ◌-◌, ◌<◌, ◌≤◌, Bool, true, false, inl, inr, Option, Some, None, refl, ap, sym, ◌∙◌, arith}
use Rattle.std.proofs.lemmas.Bool.{ne_eqb}
use Rattle.std.specs.Option.{option_and_then}
use Rattle.std.specs.Prelude.{if◌then◌else◌}
use Rattle.railway.specs.declared.block.End.{End}
use Rattle.railway.specs.declared.block.End.TheVariants.{A, B}
use Rattle.railway.specs.declared.exit.Onward.{Onward}
use Rattle.railway.specs.declared.exit.Onward.TheVariants.{To, BufferStop, Against}
use Rattle.railway.specs.declared.train.Place.{Place}
use Rattle.railway.specs.declared.train.TrainState.{TrainState}
use Rattle.railway.specs.Blocks.{length_of}
use Rattle.railway.specs.Network.{LeadsOn, Network, onward, place_of, run_on, step, stepped, way_on}
use Rattle.railway.specs.Places.{further, is_derailed, left_to, moved, moved_to, to_end}

-- In a block.

moved_to-zero : (e : End) (at : ℕ) → moved_to e at 0 ≡ at
moved_to-zero A at = omega arith
moved_to-zero B at = omega arith

moved_to-suc : (e : End) (at way : ℕ) → moved_to e (moved_to e at 1) way ≡ moved_to e at (suc way)
moved_to-suc A at way = omega arith
moved_to-suc B at way = omega arith

pub left_to-moved : (e : End) (length at way : ℕ) → suc way ≤ left_to e length at → way ≤ left_to e length (moved_to e at 1)
left_to-moved A length at way h = omega arith
left_to-moved B length at way h = omega arith

pub further-zero : (p : Place) → p ≡ further p 0
further-zero p = ap (λ (n : ℕ). record p { at = n }) (sym (moved_to-zero p.toward p.at))

pub further-suc : (p : Place) (way : ℕ) → further (further p 1) way ≡ further p (suc way)
further-suc p way = ap (λ (n : ℕ). record p { at = n }) (moved_to-suc p.toward p.at way)

pub onward-within : (n : Network) (p : Place) → 0 < to_end (length_of n.blocks p.block) p → onward n p ≡ To (further p 1)
onward-within n p h = rw (ne_eqb (to_end (length_of n.blocks p.block) p) 0 (λ e. omega arith)) refl

-- Ways.

pub way_on-suc : (n : Network) (p q : Place) (way : ℕ) → onward n p ≡ To q → way_on n p (suc way) ≡ way_on n q way
unfolding way_on
way_on-suc n p q way h = ap (λ (o : Onward). option_and_then (λ next. way_on n next way) (place_of o)) h

pub way_on-step : (n : Network) (p q : Place) (way : ℕ) → 0 < way → onward n p ≡ To q → way_on n p way ≡ way_on n q (way - 1)
way_on-step n p q way goes h =
    let whole : way ≡ suc (way - 1) = omega arith in
    ap (λ (w : ℕ). way_on n p w) whole ∙ way_on-suc n p q (way - 1) h

pub way_on-ends : (n : Network) (p : Place) (way : ℕ) → 0 < way → place_of (onward n p) ≡ None → way_on n p way ≡ None
unfolding way_on
way_on-ends n p way goes h =
    let whole : way ≡ suc (way - 1) = omega arith in
    ap (λ (w : ℕ). way_on n p w) whole ∙ ends (way - 1) where
      ends : (w : ℕ) → way_on n p (suc w) ≡ None
      ends w = ap (λ (o : Option Place). option_and_then (λ next. way_on n next w) o) h

-- an end at which the track does not lead on
pub not-to : (o : Onward) → ((q : Place) → o ≡ To q → ⊥) → place_of o ≡ None
not-to (To q) h = absurd (h q refl)
not-to BufferStop h = refl
not-to Against h = refl

pub way_on-within : (n : Network) (p : Place) (way : ℕ) → way ≤ to_end (length_of n.blocks p.block) p → way_on n p way ≡ Some (further p way)
unfolding way_on
way_on-within n p zero h = ap (λ (q : Place). Some q) (further-zero p)
way_on-within n p (suc way) h =
    way_on-suc n p (further p 1) way (onward-within n p (omega arith))
    ∙ way_on-within n (further p 1) way (left_to-moved p.toward (length_of n.blocks p.block) p.at way h)
    ∙ ap (λ (q : Place). Some q) (further-suc p way)

then_then : (all one two : Place → Option Place) → ((q : Place) → all q ≡ option_and_then two (one q)) → (next : Option Place) → option_and_then all next ≡ option_and_then two (option_and_then one next)
then_then all one two h None = refl
then_then all one two h (Some q) = h q

-- However a way is cut, it leads to the same place.
pub way_on-add : (n : Network) (p : Place) (a b : ℕ) → way_on n p (a + b) ≡ option_and_then (λ q. way_on n q b) (way_on n p a)
unfolding way_on
way_on-add n p zero b = let e : zero + b ≡ b = omega arith in rw e refl
way_on-add n p (suc a) b =
    let e : suc a + b ≡ suc (a + b) = omega arith in
    rw e (then_then (λ q. way_on n q (a + b)) (λ q. way_on n q a) (λ q. way_on n q b) (λ q. way_on-add n q a b) (place_of (onward n p)))

-- part of a way in a block, and the rest
pub way_on-part : (n : Network) (p : Place) (part way : ℕ) → part ≤ way → part ≤ to_end (length_of n.blocks p.block) p → way_on n p way ≡ way_on n (further p part) (way - part)
way_on-part n p part way h within =
    let whole : way ≡ part + (way - part) = omega arith in
    ap (λ (w : ℕ). way_on n p w) whole ∙ way_on-add n p part (way - part)
    ∙ ap (λ (q : Option Place). option_and_then (λ q. way_on n q (way - part)) q) (way_on-within n p part within)

pub way_on-goes : (n : Network) (p q : Place) (way left : ℕ) → LeadsOn n p way q left → way_on n p way ≡ way_on n q left
way_on-goes n p q way left (inl h) =
    way_on-part n p h.part way h.within h.in_block ∙ ap (λ (r : Place). way_on n r (way - h.part)) (sym h.there) ∙ ap (λ (w : ℕ). way_on n q w) (sym h.rest)
way_on-goes n p q way left (inr h) =
    let rest : way - 1 ≡ left = omega (arith, h.rest) in
    way_on-step n p q way (omega (arith, h.rest)) h.on ∙ ap (λ (w : ℕ). way_on n q w) rest

-- Trains.

pub run_on-add : (n : Network) (t : TrainState) (a b : ℕ) → run_on n t (a + b) ≡ run_on n (run_on n t a) b
unfolding run_on
run_on-add n t zero b = let e : zero + b ≡ b = omega arith in rw e refl
run_on-add n t (suc a) b = let e : suc a + b ≡ suc (a + b) = omega arith in rw e (run_on-add n (step n t) a b)

pub run_on-stands : (n : Network) (t : TrainState) (way : ℕ) → step n t ≡ t → run_on n t way ≡ t
unfolding run_on
run_on-stands n t zero h = refl
run_on-stands n t (suc way) h = ap (λ (u : TrainState). run_on n u way) h ∙ run_on-stands n t way h

pub step-derailed : (n : Network) (t : TrainState) → is_derailed t ≡ true → step n t ≡ t
step-derailed n t h = ap (λ (d : Bool). if d then t else stepped n t (onward n t.front) (onward n t.rear)) h

pub run_on-derailed : (n : Network) (t : TrainState) (way : ℕ) → is_derailed t ≡ true → run_on n t way ≡ t
run_on-derailed n t way h = run_on-stands n t way (step-derailed n t h)

pub step-onward : (n : Network) (t : TrainState) (front rear : Onward) → is_derailed t ≡ false → onward n t.front ≡ front → onward n t.rear ≡ rear → step n t ≡ stepped n t front rear
step-onward n t front rear h f r =
    ap (λ (d : Bool). if d then t else stepped n t (onward n t.front) (onward n t.rear)) h
    ∙ ap (λ (o : Onward). stepped n t o (onward n t.rear)) f ∙ ap (λ (o : Onward). stepped n t front o) r

pub run_on-step : (n : Network) (t next : TrainState) (way : ℕ) → 0 < way → step n t ≡ next → run_on n t way ≡ run_on n next (way - 1)
unfolding run_on
run_on-step n t next way goes h =
    let whole : way ≡ suc (way - 1) = omega arith in
    ap (λ (w : ℕ). run_on n t w) whole ∙ first (way - 1) where
      first : (w : ℕ) → run_on n t (suc w) ≡ run_on n next w
      first w = ap (λ (u : TrainState). run_on n u w) h

moved-zero : (t : TrainState) → t ≡ moved t 0
moved-zero t = ap (λ (p : Place). record t { front = p }) (further-zero t.front) ∙ ap (λ (p : Place). record t { front = further t.front 0; rear = p }) (further-zero t.rear)

moved-suc : (t : TrainState) (way : ℕ) → moved (moved t 1) way ≡ moved t (suc way)
moved-suc t way =
    ap (λ (p : Place). record t { front = p; rear = further (further t.rear 1) way }) (further-suc t.front way)
    ∙ ap (λ (p : Place). record t { front = further t.front (suc way); rear = p }) (further-suc t.rear way)

pub run_on-moved : (n : Network) (t : TrainState) (way : ℕ) → is_derailed t ≡ false → way ≤ to_end (length_of n.blocks t.front.block) t.front → way ≤ to_end (length_of n.blocks t.rear.block) t.rear
    → run_on n t way ≡ moved t way
unfolding run_on
run_on-moved n t zero h f r = moved-zero t
run_on-moved n t (suc way) h f r =
    ap (λ (u : TrainState). run_on n u way) (step-onward n t (To (further t.front 1)) (To (further t.rear 1)) h (onward-within n t.front (omega arith)) (onward-within n t.rear (omega arith)))
    ∙ run_on-moved n (moved t 1) way h (left_to-moved t.front.toward (length_of n.blocks t.front.block) t.front.at way f) (left_to-moved t.rear.toward (length_of n.blocks t.rear.block) t.rear.at way r)
    ∙ moved-suc t way

-- part of a way in the same blocks, and the rest
pub run_on-part : (n : Network) (t : TrainState) (part way : ℕ) → is_derailed t ≡ false → part ≤ way → part ≤ to_end (length_of n.blocks t.front.block) t.front → part ≤ to_end (length_of n.blocks t.rear.block) t.rear
    → run_on n t way ≡ run_on n (moved t part) (way - part)
run_on-part n t part way h less f r =
    let whole : way ≡ part + (way - part) = omega arith in
    ap (λ (w : ℕ). run_on n t w) whole ∙ run_on-add n t part (way - part) ∙ ap (λ (u : TrainState). run_on n u (way - part)) (run_on-moved n t part h f r)

-- a train whose rear does not go on stands
pub rear-stands : (n : Network) (t : TrainState) (front : Place) (rear : Onward) → ((q : Place) → rear ≡ To q → ⊥) → stepped n t (To front) rear ≡ t
rear-stands n t front (To q) h = absurd (h q refl)
rear-stands n t front BufferStop h = refl
rear-stands n t front Against h = refl
