-- The blocks on a way.
use Rattle.std.proofs.Common.{◌≡◌, ◌⊎◌, ℕ, zero, suc, ◌-◌, ◌<◌, ◌≤◌, ◌==◌, Bool, true, false, inl, inr, List, Option, Some, None, length, refl, ap, sym, subst, ◌∙◌, arith, length-set}
use Rattle.std.proofs.lemmas.List.{set-set, get_or-set_same, get_or-set_other}
use Rattle.std.proofs.lemmas.Bool.{cases_Bool, eqb-true}
use Rattle.std.proofs.lemmas.Bool.Decides.{nat_tests}
use Rattle.std.specs.List.{slice_index_or}
use Rattle.std.specs.Prelude.{slice_set}
use Rattle.railway.specs.declared.exit.Onward.{Onward}
use Rattle.railway.specs.declared.exit.Onward.TheVariants.{To}
use Rattle.railway.specs.declared.train.Place.{Place}
use Rattle.railway.specs.Blocks.{length_of}
use Rattle.railway.specs.Laws.{IsOnWay}
use Rattle.railway.specs.Network.{LeadsOn, Network, covered, covered_by, onward, place_of, way_on}
use Rattle.railway.specs.Places.{further, to_end}
use Rattle.railway.proofs.Facts.{none-some, some-same}
use Rattle.railway.proofs.Turning.{onward-cases}
use Rattle.railway.proofs.Ways.{further-suc, further-zero, left_to-moved, onward-within, way_on-ends, way_on-suc}

-- One femtometre.

pub covered-suc : (n : Network) (p q : Place) (way : ℕ) (m : List Bool) → onward n p ≡ To q → covered n p (suc way) m ≡ covered n q way (slice_set m p.block true)
unfolding covered
covered-suc n p q way m h =
    ap (λ (o : Onward). covered_by (λ next. covered n next way (slice_set m p.block true)) (slice_set m p.block true) (place_of o)) h

pub covered-zero : (n : Network) (p : Place) (m : List Bool) → covered n p 0 m ≡ slice_set m p.block true
unfolding covered
covered-zero n p m = refl

pub covered-ends : (n : Network) (p : Place) (way : ℕ) (m : List Bool) → place_of (onward n p) ≡ None → covered n p way m ≡ slice_set m p.block true
unfolding covered
covered-ends n p zero m h = refl
covered-ends n p (suc way) m h =
    ap (λ (o : Option Place). covered_by (λ next. covered n next way (slice_set m p.block true)) (slice_set m p.block true) o) h

-- a block that is marked first is marked anyway
pub covered-set : (n : Network) (p : Place) (way : ℕ) (m : List Bool) → covered n p way (slice_set m p.block true) ≡ covered n p way m
unfolding covered
covered-set n p zero m = set-set m p.block true true
covered-set n p (suc way) m =
    ap (λ (k : List Bool). covered_by (λ next. covered n next way k) k (place_of (onward n p))) (set-set m p.block true true)

pub covered-step : (n : Network) (p q : Place) (way : ℕ) (m : List Bool) → 0 < way → onward n p ≡ To q → covered n p way (slice_set m p.block true) ≡ covered n q (way - 1) (slice_set m p.block true)
covered-step n p q way m goes h =
    let whole : way ≡ suc (way - 1) = omega arith in
    covered-set n p way m ∙ ap (λ (w : ℕ). covered n p w m) whole ∙ covered-suc n p q (way - 1) m h

-- In a block.

covered-within : (n : Network) (p : Place) (way : ℕ) (m : List Bool) → 0 < to_end (length_of n.blocks p.block) p → covered n p (suc way) m ≡ covered n (further p 1) way m
covered-within n p way m h = covered-suc n p (further p 1) way m (onward-within n p h) ∙ covered-set n (further p 1) way m

pub covered-part : (n : Network) (p : Place) (part way : ℕ) (m : List Bool) → part ≤ way → part ≤ to_end (length_of n.blocks p.block) p → covered n p way m ≡ covered n (further p part) (way - part) m
covered-part n p zero way m less h =
    let all : way ≡ way - 0 = omega arith in
    ap (λ (w : ℕ). covered n p w m) all ∙ ap (λ (q : Place). covered n q (way - 0) m) (further-zero p)
covered-part n p (suc part) way m less h =
    let whole : way ≡ suc (way - 1) = omega (arith, less) in
    let rest : way - 1 - part ≡ way - suc part = omega arith in
    ap (λ (w : ℕ). covered n p w m) whole
    ∙ covered-within n p (way - 1) m (omega (arith, h))
    ∙ covered-part n (further p 1) part (way - 1) m (omega (arith, less)) (left_to-moved p.toward (length_of n.blocks p.block) p.at part h)
    ∙ ap (λ (q : Place). covered n q (way - 1 - part) m) (further-suc p part)
    ∙ ap (λ (w : ℕ). covered n (further p (suc part)) w m) rest

pub covered-goes : (n : Network) (p q : Place) (way left : ℕ) (m : List Bool) → LeadsOn n p way q left → covered n p way (slice_set m p.block true) ≡ covered n q left (slice_set m p.block true)
covered-goes n p q way left m (inl h) =
    covered-part n p h.part way (slice_set m p.block true) h.within h.in_block
    ∙ ap (λ (r : Place). covered n r (way - h.part) (slice_set m p.block true)) (sym h.there)
    ∙ ap (λ (w : ℕ). covered n q w (slice_set m p.block true)) (sym h.rest)
covered-goes n p q way left m (inr h) =
    let rest : way - 1 ≡ left = omega (arith, h.rest) in
    covered-step n p q way m (omega (arith, h.rest)) h.on ∙ ap (λ (w : ℕ). covered n q w (slice_set m p.block true)) rest

-- Which blocks are marked.

-- what is marked after a block is
set-cases : (m : List Bool) (i b : ℕ) → slice_index_or (slice_set m i true) b false ≡ true → (i ≡ b) ⊎ (slice_index_or m b false ≡ true)
set-cases m i b h = elim (cases_Bool (i == b)) [
  | inl same ↦ inl (eqb-true i b same)
  | inr other ↦ inr (sym (get_or-set_other m i b true false (apart other)) ∙ h)
] where
  apart : (i == b) ≡ false → b ≡ i → ⊥
  apart e g = grind (arith, nat_tests)

set-here : (m : List Bool) (i : ℕ) → i < length m → slice_index_or (slice_set m i true) i false ≡ true
set-here m i h = get_or-set_same m i true false h

set-more : (m : List Bool) (i b : ℕ) → b < length m → slice_index_or m b false ≡ true → slice_index_or (slice_set m i true) b false ≡ true
set-more m i b h g = elim (cases_Bool (i == b)) [
  | inl same ↦ subst (λ (j : ℕ). slice_index_or (slice_set m j true) b false ≡ true) (sym (eqb-true i b same)) (set-here m b h)
  | inr other ↦ get_or-set_other m i b true false (apart other) ∙ g
] where
  apart : (i == b) ≡ false → b ≡ i → ⊥
  apart e f = grind (arith, nat_tests)

set-length : (m : List Bool) (i : ℕ) → length (slice_set m i true) ≡ length m
set-length m i = length-set m i true

here : (n : Network) (p : Place) (way b : ℕ) → p.block ≡ b → IsOnWay n p way b
unfolding way_on
here n p way b h = record { part = 0; within = omega arith; place = p; there = refl; in_block = h }

ahead : (n : Network) (p q : Place) (way b : ℕ) → onward n p ≡ To q → IsOnWay n q way b → IsOnWay n p (suc way) b
ahead n p q way b h on = record {
  part = suc on.part;
  within = omega (arith, on.within);
  place = on.place;
  there = way_on-suc n p q on.part h ∙ on.there;
  in_block = on.in_block;
}

pub covered-way : (n : Network) (p : Place) (way b : ℕ) (m : List Bool) → slice_index_or (covered n p way m) b false ≡ true → (IsOnWay n p way b) ⊎ (slice_index_or m b false ≡ true)
covered-way n p zero b m h =
    elim (set-cases m p.block b (sym (ap (λ (k : List Bool). slice_index_or k b false) (covered-zero n p m)) ∙ h)) [
      | inl same ↦ inl (here n p 0 b same)
      | inr before ↦ inr before
    ]
covered-way n p (suc way) b m h = elim (onward-cases (onward n p)) [
  | inl next ↦ elim (covered-way n next.0 way b (slice_set m p.block true) (sym (ap (λ (k : List Bool). slice_index_or k b false) (covered-suc n p next.0 way m next.1)) ∙ h)) [
    | inl on ↦ inl (ahead n p next.0 way b next.1 on)
    | inr set ↦ marked set
  ]
  | inr ends ↦ marked (sym (ap (λ (k : List Bool). slice_index_or k b false) (covered-ends n p (suc way) m ends)) ∙ h)
] where
  marked : slice_index_or (slice_set m p.block true) b false ≡ true → (IsOnWay n p (suc way) b) ⊎ (slice_index_or m b false ≡ true)
  marked set = elim (set-cases m p.block b set) [
    | inl same ↦ inl (here n p (suc way) b same)
    | inr before ↦ inr before
  ]

-- what is marked stays so
pub covered-more : (n : Network) (p : Place) (way b : ℕ) (m : List Bool) → b < length m → slice_index_or m b false ≡ true → slice_index_or (covered n p way m) b false ≡ true
covered-more n p zero b m h g = ap (λ (k : List Bool). slice_index_or k b false) (covered-zero n p m) ∙ set-more m p.block b h g
covered-more n p (suc way) b m h g = elim (onward-cases (onward n p)) [
  | inl next ↦
      ap (λ (k : List Bool). slice_index_or k b false) (covered-suc n p next.0 way m next.1)
      ∙ covered-more n next.0 way b (slice_set m p.block true) (let e : length (slice_set m p.block true) ≡ length m = set-length m p.block in omega (arith, e, h)) (set-more m p.block b h g)
  | inr ends ↦ ap (λ (k : List Bool). slice_index_or k b false) (covered-ends n p (suc way) m ends) ∙ set-more m p.block b h g
]

covered-first : (n : Network) (p : Place) (way : ℕ) (m : List Bool) → p.block < length m → slice_index_or (covered n p way m) p.block false ≡ true
covered-first n p way m h =
    ap (λ (k : List Bool). slice_index_or k p.block false) (sym (covered-set n p way m))
    ∙ covered-more n p way p.block (slice_set m p.block true) (let e : length (slice_set m p.block true) ≡ length m = set-length m p.block in omega (arith, e, h)) (set-here m p.block h)

pub way-covered : (n : Network) (p : Place) (way part b : ℕ) (m : List Bool) (place : Place) → b < length m → part ≤ way → way_on n p part ≡ Some place → place.block ≡ b → slice_index_or (covered n p way m) b false ≡ true
unfolding way_on
way-covered n p way zero b m place h within there is =
    let same : p.block ≡ b = ap (λ (q : Place). q.block) (some-same p place there) ∙ is in
    subst (λ (c : ℕ). slice_index_or (covered n p way m) c false ≡ true) same (covered-first n p way m (subst (λ (c : ℕ). c < length m) (sym same) h))
way-covered n p zero (suc part) b m place h within there is = absurd (omega (arith, within))
way-covered n p (suc way) (suc part) b m place h within there is = elim (onward-cases (onward n p)) [
  | inl next ↦
      ap (λ (k : List Bool). slice_index_or k b false) (covered-suc n p next.0 way m next.1)
      ∙ way-covered n next.0 way part b (slice_set m p.block true) place (let e : length (slice_set m p.block true) ≡ length m = set-length m p.block in omega (arith, e, h)) (omega (arith, within))
      (sym (way_on-suc n p next.0 part next.1) ∙ there) is
  | inr ends ↦ absurd (none-some place (sym (way_on-ends n p (suc part) (omega arith) ends) ∙ there))
]
