-- What an observer knows by the reports of sensors.
use Rattle.std.proofs.Common.{◌≡◌, ℕ, zero, suc, ◌+◌, ◌<◌, ◌==◌, ◌&&◌, ◌++◌, Bool, true, false, not, inl, inr, List, [], ◌∷◌, length, Option, Some, None, refl, ap, sym, subst, ◌∙◌, arith}
use Rattle.std.proofs.lemmas.Bool.{and_parts, both_ways, cases_Bool, eq-eqb, eqb-true, not-true}
use Rattle.std.proofs.lemmas.List.Folds.{list_any_at}
use Rattle.std.specs.List.{slice_index_or}
use Rattle.std.specs.Option.{option_eq}
use Rattle.std.specs.Prelude.{nat_eq, if◌then◌else◌}
use Rattle.railway.specs.declared.block.Block.{Block}
use Rattle.ln_ops.specs.declared.sensor.SensorReport.{SensorReport}
use Rattle.railway.specs.Blocks.{are_distinct, has_sensor, is_free, default_block}
use Rattle.railway.specs.Turnouts.{same_bool}
use Rattle.railway.specs.Reports.{changes, changes_from, changes_through, full, full_from, level_of, level_after, onto, change_of}
use Rattle.railway.proofs.Facts.{or-left, or-right}

pub level_after-append : (these those : List SensorReport) (sensor : ℕ) (level : Bool) → level_after (these ++ those) sensor level ≡ level_after those sensor (level_after these sensor level)
level_after-append [] those sensor level = refl
level_after-append (report ∷ these) those sensor level = level_after-append these those sensor (if report.sensor == sensor then report.occupied else level)

-- the level that is known of a sensor after one report or none
abbrev known : Option SensorReport → ℕ → Bool → Bool
known None sensor level = level
known (Some report) sensor level = if report.sensor == sensor then report.occupied else level

level_after-onto : (report : Option SensorReport) (reports : List SensorReport) (sensor : ℕ) (level : Bool) → level_after (onto report reports) sensor level ≡ level_after reports sensor (known report sensor level)
level_after-onto None reports sensor level = refl
level_after-onto (Some report) reports sensor level = refl

-- the level that is known after the changes to one level
abbrev pub come : (level was is taken : Bool) → Bool
come level was is taken = if same_bool is level && not (same_bool was level) then level else taken

-- The report of a block is one of its own sensor, and of no other.

known-own : (level : Bool) (sensor : ℕ) (was is taken : Bool) → known (change_of level (Some sensor) was is) sensor taken ≡ come level was is taken
known-own level sensor was is taken = chosen (same_bool is level && not (same_bool was level)) where
  chosen : (b : Bool) → known (if b then Some (record { sensor = sensor; occupied = level }) else None) sensor taken ≡ (if b then level else taken)
  chosen true = rw (eq-eqb sensor sensor refl) refl
  chosen false = refl

-- another sensor than that of the block
abbrev IsOther : Option ℕ → ℕ → Type 0
IsOther of_block sensor = option_eq nat_eq of_block (Some sensor) ≡ false

known-other : (level : Bool) (of_block : Option ℕ) (sensor : ℕ) (was is taken : Bool) → IsOther of_block sensor → known (change_of level of_block was is) sensor taken ≡ taken
known-other level None sensor was is taken other = refl
known-other level (Some own) sensor was is taken other = chosen (same_bool is level && not (same_bool was level)) where
  chosen : (b : Bool) → known (if b then Some (record { sensor = own; occupied = level }) else None) sensor taken ≡ taken
  chosen true = rw other refl
  chosen false = refl

full-own : (sensor : ℕ) (is taken : Bool) → known (level_of (Some sensor) is) sensor taken ≡ is
full-own sensor is taken = rw (eq-eqb sensor sensor refl) refl

full-other : (of_block : Option ℕ) (sensor : ℕ) (is taken : Bool) → IsOther of_block sensor → known (level_of of_block is) sensor taken ≡ taken
full-other None sensor is taken other = refl
full-other (Some own) sensor is taken other = rw other refl

-- Of all blocks.

-- a sensor that no block has is that of none of them
not-has : (own sensor : ℕ) (blocks : List Block) (j : ℕ) → has_sensor own blocks ≡ false → j < length blocks → (slice_index_or blocks j default_block).sensor ≡ Some sensor → nat_eq own sensor ≡ false
not-has own sensor blocks j none h there = elim (cases_Bool (nat_eq own sensor)) [
  | inl same ↦ absurd (both_ways (has_sensor own blocks) none
      (list_any_at (λ (block : Block). option_eq nat_eq block.sensor (Some own)) blocks j default_block h
      (ap (λ (s : Option ℕ). option_eq nat_eq s (Some own)) there ∙ eq-eqb sensor own (sym (eqb-true own sensor same)))))
  | inr other ↦ other
]

free-other : (of_block : Option ℕ) (blocks : List Block) (sensor j : ℕ) → is_free of_block blocks ≡ true → j < length blocks → (slice_index_or blocks j default_block).sensor ≡ Some sensor → IsOther of_block sensor
free-other None blocks sensor j free h there = refl
free-other (Some own) blocks sensor j free h there = not-has own sensor blocks j (not-true _ free) h there

-- The reports of blocks that have not the sensor say nothing of it.

changes-silent : (level : Bool) (was is : ℕ → Bool) (k : ℕ) (blocks : List Block) (sensor : ℕ) (taken : Bool) → has_sensor sensor blocks ≡ false → level_after (changes_from level was is k blocks) sensor taken ≡ taken
changes-silent level was is k [] sensor taken none = refl
changes-silent level was is k (block ∷ blocks) sensor taken none =
    let other : IsOther block.sensor sensor = or-left _ (has_sensor sensor blocks) none in
    level_after-onto (change_of level block.sensor (was k) (is k)) (changes_from level was is (k + 1) blocks) sensor taken
    ∙ changes-silent level was is (k + 1) blocks sensor _ (or-right (option_eq nat_eq block.sensor (Some sensor)) _ none)
    ∙ known-other level block.sensor sensor (was k) (is k) taken other

full-silent : (is : ℕ → Bool) (k : ℕ) (blocks : List Block) (sensor : ℕ) (taken : Bool) → has_sensor sensor blocks ≡ false → level_after (full_from is k blocks) sensor taken ≡ taken
full-silent is k [] sensor taken none = refl
full-silent is k (block ∷ blocks) sensor taken none =
    let other : IsOther block.sensor sensor = or-left _ (has_sensor sensor blocks) none in
    level_after-onto (level_of block.sensor (is k)) (full_from is (k + 1) blocks) sensor taken
    ∙ full-silent is (k + 1) blocks sensor _ (or-right (option_eq nat_eq block.sensor (Some sensor)) _ none)
    ∙ full-other block.sensor sensor (is k) taken other

-- the other blocks have not the sensor of the first
first-alone : (of_block : Option ℕ) (blocks : List Block) (sensor : ℕ) → is_free of_block blocks ≡ true → of_block ≡ Some sensor → has_sensor sensor blocks ≡ false
first-alone of_block blocks sensor free own = not-true _ (subst (λ (s : Option ℕ). is_free s blocks ≡ true) own free)

changes-known : (level : Bool) (was is : ℕ → Bool) (k : ℕ) (blocks : List Block) (j sensor : ℕ) (taken : Bool) → are_distinct blocks ≡ true → j < length blocks → (slice_index_or blocks j default_block).sensor ≡ Some sensor
    → level_after (changes_from level was is k blocks) sensor taken ≡ come level (was (k + j)) (is (k + j)) taken
changes-known level was is k [] j sensor taken distinct h there = absurd (omega arith)
changes-known level was is k (block ∷ blocks) zero sensor taken distinct h there =
    let parts = and_parts (is_free block.sensor blocks) (are_distinct blocks) distinct in
    let here : k ≡ k + 0 = omega arith in
    level_after-onto (change_of level block.sensor (was k) (is k)) (changes_from level was is (k + 1) blocks) sensor taken
    ∙ changes-silent level was is (k + 1) blocks sensor _ (first-alone block.sensor blocks sensor parts.0 there)
    ∙ ap (λ (s : Option ℕ). known (change_of level s (was k) (is k)) sensor taken) there
    ∙ known-own level sensor (was k) (is k) taken
    ∙ ap (λ (n : ℕ). come level (was n) (is n) taken) here
changes-known level was is k (block ∷ blocks) (suc j) sensor taken distinct h there =
    let parts = and_parts (is_free block.sensor blocks) (are_distinct blocks) distinct in
    let before : j < length blocks = omega arith in
    let further : k + 1 + j ≡ k + suc j = omega arith in
    level_after-onto (change_of level block.sensor (was k) (is k)) (changes_from level was is (k + 1) blocks) sensor taken
    ∙ changes-known level was is (k + 1) blocks j sensor _ parts.1 before there
    ∙ ap (λ (t : Bool). come level (was (k + 1 + j)) (is (k + 1 + j)) t)
    (known-other level block.sensor sensor (was k) (is k) taken (free-other block.sensor blocks sensor j parts.0 before there))
    ∙ ap (λ (n : ℕ). come level (was n) (is n) taken) further

full-known : (is : ℕ → Bool) (k : ℕ) (blocks : List Block) (j sensor : ℕ) (taken : Bool) → are_distinct blocks ≡ true → j < length blocks → (slice_index_or blocks j default_block).sensor ≡ Some sensor
    → level_after (full_from is k blocks) sensor taken ≡ is (k + j)
full-known is k [] j sensor taken distinct h there = absurd (omega arith)
full-known is k (block ∷ blocks) zero sensor taken distinct h there =
    let parts = and_parts (is_free block.sensor blocks) (are_distinct blocks) distinct in
    let here : k ≡ k + 0 = omega arith in
    level_after-onto (level_of block.sensor (is k)) (full_from is (k + 1) blocks) sensor taken
    ∙ full-silent is (k + 1) blocks sensor _ (first-alone block.sensor blocks sensor parts.0 there)
    ∙ ap (λ (s : Option ℕ). known (level_of s (is k)) sensor taken) there
    ∙ full-own sensor (is k) taken
    ∙ ap (λ (n : ℕ). is n) here
full-known is k (block ∷ blocks) (suc j) sensor taken distinct h there =
    let parts = and_parts (is_free block.sensor blocks) (are_distinct blocks) distinct in
    let before : j < length blocks = omega arith in
    let further : k + 1 + j ≡ k + suc j = omega arith in
    level_after-onto (level_of block.sensor (is k)) (full_from is (k + 1) blocks) sensor taken
    ∙ full-known is (k + 1) blocks j sensor _ parts.1 before there
    ∙ ap (λ (n : ℕ). is n) further

come-both : (was is : Bool) → come false was is (come true was is was) ≡ is
come-both true true = refl
come-both true false = refl
come-both false true = refl
come-both false false = refl

-- an observer who knows what a block was knows what it is
pub knows_changes : (blocks : List Block) (was is : ℕ → Bool) (j sensor : ℕ) → are_distinct blocks ≡ true → j < length blocks → (slice_index_or blocks j default_block).sensor ≡ Some sensor
    → level_after (changes blocks was is) sensor (was j) ≡ is j
knows_changes blocks was is j sensor distinct h there =
    let here : 0 + j ≡ j = omega arith in
    level_after-append (changes_from true was is 0 blocks) (changes_from false was is 0 blocks) sensor (was j)
    ∙ changes-known false was is 0 blocks j sensor _ distinct h there
    ∙ ap (λ (t : Bool). come false (was (0 + j)) (is (0 + j)) t) (changes-known true was is 0 blocks j sensor (was j) distinct h there)
    ∙ ap (λ (n : ℕ). come false (was n) (is n) (come true (was n) (is n) (was j))) here
    ∙ come-both (was j) (is j)

come-through : (was sensed is : Bool) → (was ≡ true → sensed ≡ true) → (is ≡ true → sensed ≡ true) → come false sensed is (come true was sensed was) ≡ is
come-through true true true h g = refl
come-through true true false h g = refl
come-through true false is h g = let no = h refl in cc
come-through false true true h g = refl
come-through false true false h g = refl
come-through false false true h g = let no = g refl in cc
come-through false false false h g = refl

pub knows_through : (blocks : List Block) (was sensed is : ℕ → Bool) (j sensor : ℕ) → are_distinct blocks ≡ true → j < length blocks → (slice_index_or blocks j default_block).sensor ≡ Some sensor
    → (was j ≡ true → sensed j ≡ true) → (is j ≡ true → sensed j ≡ true) → level_after (changes_through blocks was sensed is) sensor (was j) ≡ is j
knows_through blocks was sensed is j sensor distinct h there first last =
    let here : 0 + j ≡ j = omega arith in
    level_after-append (changes_from true was sensed 0 blocks) (changes_from false sensed is 0 blocks) sensor (was j)
    ∙ changes-known false sensed is 0 blocks j sensor _ distinct h there
    ∙ ap (λ (t : Bool). come false (sensed (0 + j)) (is (0 + j)) t) (changes-known true was sensed 0 blocks j sensor (was j) distinct h there)
    ∙ ap (λ (n : ℕ). come false (sensed n) (is n) (come true (was n) (sensed n) (was j))) here
    ∙ come-through (was j) (sensed j) (is j) first last

pub knows_full : (blocks : List Block) (is : ℕ → Bool) (j sensor : ℕ) (taken : Bool) → are_distinct blocks ≡ true → j < length blocks → (slice_index_or blocks j default_block).sensor ≡ Some sensor
    → level_after (full blocks is) sensor taken ≡ is j
knows_full blocks is j sensor taken distinct h there =
    let here : 0 + j ≡ j = omega arith in
    full-known is 0 blocks j sensor taken distinct h there ∙ ap (λ (n : ℕ). is n) here
