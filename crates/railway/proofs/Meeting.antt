-- Conflicts are two trains in a block.
use Rattle.std.proofs.Common.{◌≡◌, ◌≢◌, ℕ, zero, suc, ◌+◌, ◌-◌, ◌<◌, ◌≤◌, Bool, true, false, inl, inr, List, [], ◌∷◌, Option, Some, None, length, drop, refl, ap, sym, subst, ◌∙◌, arith}
use Rattle.std.proofs.lemmas.Bool.{cases_Bool}
use Rattle.std.specs.List.{slice_index_or}
use Rattle.std.specs.Option.{option_and_then, option_map}
use Rattle.std.specs.Prelude.{if◌then◌else◌}
use Rattle.railway.specs.declared.conflict.Conflict.{Conflict}
use Rattle.railway.specs.declared.train.TrainState.{TrainState}
use Rattle.railway.specs.Conflicts.{conflict_in, first_in}
use Rattle.railway.specs.Laws.{IsConflict}
use Rattle.railway.specs.Reports.{occupies}

-- where the first train in a block is
record IsFirst (block i k : ℕ) (ts : List TrainState) (none : TrainState) : Type 0 where
  from : i ≤ k
  below : k < i + length ts
  in_block : occupies block (slice_index_or ts (k - i) none) ≡ true

first-here : (block i : ℕ) (t : TrainState) (ts : List TrainState) → occupies block t ≡ true → first_in block i (t ∷ ts) ≡ Some i
first-here block i t ts h = ap (λ (b : Bool). if b then Some i else first_in block (i + 1) ts) h

first-later : (block i : ℕ) (t : TrainState) (ts : List TrainState) → occupies block t ≡ false → first_in block i (t ∷ ts) ≡ first_in block (i + 1) ts
first-later block i t ts h = ap (λ (b : Bool). if b then Some i else first_in block (i + 1) ts) h

same-number : (i k : ℕ) → Some i ≡ Some k → i ≡ k
same-number i k h = cc

is-first : (block i k : ℕ) (ts : List TrainState) (none : TrainState) → first_in block i ts ≡ Some k → IsFirst block i k ts none
is-first block i k [] none h = cc
is-first block i k (t ∷ ts) none h = elim (cases_Bool (occupies block t)) [
  | inl here ↦
      let same : i ≡ k = same-number i k (sym (first-here block i t ts here) ∙ h) in
      let zero-away : 0 ≡ k - i = omega (arith, same) in
      record {
        from = omega (arith, same);
        below = omega (arith, same);
        in_block = subst (λ (j : ℕ). occupies block (slice_index_or (t ∷ ts) j none) ≡ true) zero-away here;
      }
  | inr later ↦
      let rest = is-first block (i + 1) k ts none (sym (first-later block i t ts later) ∙ h) in
      let next : suc (k - (i + 1)) ≡ k - i = omega (arith, rest.from) in
      record {
        from = omega (arith, rest.from);
        below = omega (arith, rest.below);
        in_block = subst (λ (j : ℕ). occupies block (slice_index_or (t ∷ ts) j none) ≡ true) next rest.in_block;
      }
]

-- a train in a block is found, or one before it
is-found : (block i j : ℕ) (ts : List TrainState) (none : TrainState) → j < length ts → occupies block (slice_index_or ts j none) ≡ true → (k : ℕ) × (first_in block i ts ≡ Some k) × (k ≤ i + j)
is-found block i j [] none less h = absurd (omega (arith, less))
is-found block i zero (t ∷ ts) none less h = (i, first-here block i t ts h, omega arith)
is-found block i (suc j) (t ∷ ts) none less h = elim (cases_Bool (occupies block t)) [
  | inl here ↦ (i, first-here block i t ts here, omega arith)
  | inr later ↦
      let more : j < length ts = omega (arith, less) in
      let rest = is-found block (i + 1) j ts none more h in
      let bound : rest.0 ≤ i + suc j = omega (arith, rest.2) in
      (rest.0, first-later block i t ts later ∙ rest.1, bound)
]

drop-index : (n j : ℕ) (ts : List TrainState) (none : TrainState) → slice_index_or (drop n ts) j none ≡ slice_index_or ts (n + j) none
drop-index zero j ts none = let same : j ≡ 0 + j = omega arith in ap (λ (k : ℕ). slice_index_or ts k none) same
drop-index (suc n) j [] none = refl
drop-index (suc n) j (t ∷ ts) none = let same : suc (n + j) ≡ suc n + j = omega arith in drop-index n j ts none ∙ ap (λ (k : ℕ). slice_index_or (t ∷ ts) k none) same

drop-length : (n : ℕ) (ts : List TrainState) → length (drop n ts) ≡ length ts - n
drop-length zero ts = omega arith
drop-length (suc n) [] = omega arith
drop-length (suc n) (t ∷ ts) = let rest : length (drop n ts) ≡ length ts - n = drop-length n ts in omega (arith, rest)

-- what is found when the first train and the next are
abbrev conflict-of : (block : ℕ) (ts : List TrainState) (first : ℕ) → Option Conflict
conflict-of block ts first =
    option_map (λ second. record { block = block; first = first; second = second }) (first_in block (first + 1) (drop (first + 1) ts))

no-conflict : (conflict : Conflict) → None ≡ Some conflict → ⊥
no-conflict conflict h = cc

same-conflict : (one two : Conflict) → Some one ≡ Some two → one ≡ two
same-conflict one two h = cc

pub conflict-is : (ts : List TrainState) (block : ℕ) (conflict : Conflict) (none : TrainState) → conflict_in block ts ≡ Some conflict → IsConflict ts block conflict.first conflict.second none
conflict-is ts block conflict none h = first (first_in block 0 ts) refl where
  second : (k : ℕ) → first_in block 0 ts ≡ Some k → (o : Option ℕ) → first_in block (k + 1) (drop (k + 1) ts) ≡ o
      → option_map (λ second. record { block = block; first = k; second = second }) o ≡ Some conflict → IsConflict ts block conflict.first conflict.second none
  second k f None s g = absurd (no-conflict conflict g)
  second k f (Some m) s g =
      let one = is-first block 0 k ts none f in
      let two = is-first block (k + 1) m (drop (k + 1) ts) none s in
      let size : length (drop (k + 1) ts) ≡ length ts - (k + 1) = drop-length (k + 1) ts in
      let there : k + 1 + (m - (k + 1)) ≡ m = omega (arith, two.from) in
      let here : k - 0 ≡ k = omega arith in
      let found : IsConflict ts block k m none = record {
        apart = omega (arith, two.from);
        of_railway = omega (arith, two.below, two.from, size);
        first_in_block = subst (λ (j : ℕ). occupies block (slice_index_or ts j none) ≡ true) here one.in_block;
        second_in_block = subst (λ (t : TrainState). occupies block t ≡ true) (drop-index (k + 1) (m - (k + 1)) ts none ∙ ap (λ (j : ℕ). slice_index_or ts j none) there) two.in_block;
      } in
      let is : record { block = block; first = k; second = m } ≡ conflict = same-conflict (record { block = block; first = k; second = m }) conflict g in
      subst (λ (c : Conflict). IsConflict ts block c.first c.second none) is found

  first : (o : Option ℕ) → first_in block 0 ts ≡ o → IsConflict ts block conflict.first conflict.second none
  first None f = absurd (no-conflict conflict (sym (ap (λ (o : Option ℕ). option_and_then (conflict-of block ts) o) f) ∙ h))
  first (Some k) f =
      second k f (first_in block (k + 1) (drop (k + 1) ts)) refl (sym (ap (λ (o : Option ℕ). option_and_then (conflict-of block ts) o) f) ∙ h)

-- the first train in a block and the next one are its conflict
conflict-from : (ts : List TrainState) (block k m : ℕ) → first_in block 0 ts ≡ Some k → first_in block (k + 1) (drop (k + 1) ts) ≡ Some m
    → conflict_in block ts ≡ Some (record { block = block; first = k; second = m })
conflict-from ts block k m f s =
    ap (λ (o : Option ℕ). option_and_then (conflict-of block ts) o) f
    ∙ ap (λ (o : Option ℕ). option_map (λ second. record { block = block; first = k; second = second }) o) s

-- a train in the block after the first one there is found
is-next : (ts : List TrainState) (block k first second : ℕ) (none : TrainState) → k ≤ first → IsConflict ts block first second none → (m : ℕ) × (first_in block (k + 1) (drop (k + 1) ts) ≡ Some m)
is-next ts block k first second none early is =
    let far : k + 1 + (second - (k + 1)) ≡ second = omega (arith, early, is.apart) in
    let size : length (drop (k + 1) ts) ≡ length ts - (k + 1) = drop-length (k + 1) ts in
    let less : second - (k + 1) < length (drop (k + 1) ts) = omega (arith, size, early, is.apart, is.of_railway) in
    let in_block = subst (λ (t : TrainState). occupies block t ≡ true) (sym (drop-index (k + 1) (second - (k + 1)) ts none ∙ ap (λ (j : ℕ). slice_index_or ts j none) far)) is.second_in_block in
    let two = is-found block (k + 1) (second - (k + 1)) (drop (k + 1) ts) none less in_block in
    (two.0, two.1)

pub conflict-found : (ts : List TrainState) (block first second : ℕ) (none : TrainState) → IsConflict ts block first second none → conflict_in block ts ≢ None
conflict-found ts block first second none is missing =
    let before : first < length ts = omega (arith, is.apart, is.of_railway) in
    let one = is-found block 0 first ts none before is.first_in_block in
    let early : one.0 ≤ first = omega (arith, one.2) in
    let two = is-next ts block one.0 first second none early is in
    no-conflict (record { block = block; first = one.0; second = two.0 }) (sym missing ∙ conflict-from ts block one.0 two.0 one.1 two.1)
