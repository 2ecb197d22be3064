-- The blocks in which trains are, and what sensors report of them.
use Rattle.std.proofs.Common.{◌≡◌, ◌<◌, ◌≤◌, ◌+◌, ◌∙◌, ◌++◌, ℕ, Bool, true, false, if◌then◌else◌, List, [], ◌∷◌, length, Option, Some, None, refl, ap, ap₂, arith}
use Rattle.std.proofs.lemmas.Bool.{and_parts}
use Rattle.std.specs.Bool.{beq}
use Rattle.std.specs.Cmp.Lexicographic.{pointwise}
use Rattle.std.specs.Prelude.{◌&&◌, not}
use Rattle.std.specs.List.{slice_index_or}
use Rattle.ln_ops.specs.declared.sensor.SensorReport.{SensorReport}
use Rattle.railway.specs.declared.block.Block.{Block}
use Rattle.railway.specs.Reports.{AreBlocksMarked, AreMarked, change_of, changes, changes_from, changes_in, changes_of, changes_through, changes_through_of, full, full_from, full_in, level_of, onto}
use Rattle.railway.specs.Turnouts.{same_bool}
use Rattle.railway.proofs.Keeping.{same-marks}

-- Trains that stay in their blocks make no sensor report.

and_not : (a : Bool) → (a && not a) ≡ false
and_not true = refl
and_not false = refl

same_level : (level : Bool) (sensor : Option ℕ) (is : Bool) → change_of level sensor is is ≡ None
same_level level None is = refl
same_level level (Some sensor) is =
    ap (λ (changed : Bool). if changed then Some (record { sensor = sensor; occupied = level }) else None) (and_not (same_bool is level))

no_changes_in : (level : Bool) (m : List Bool) (i : ℕ) (blocks : List Block) → changes_in level m m i blocks ≡ []
no_changes_in level m i [] = refl
no_changes_in level m i (block ∷ blocks) =
    ap₂ onto (same_level level block.sensor (slice_index_or m i false)) (no_changes_in level m (i + 1) blocks)

pub no_changes : (was is : List Bool) (blocks : List Block) → pointwise beq was is ≡ true → changes_of was is blocks ≡ []
no_changes was is blocks h =
    ap (λ (m : List Bool). changes_of m is blocks) (same-marks was is h)
    ∙ ap₂ (λ (a b : List SensorReport). a ++ b) (no_changes_in true is 0 blocks) (no_changes_in false is 0 blocks)

-- What they report goes by the blocks that are occupied.

changes-by : (level : Bool) (was is : ℕ → Bool) (before after : List Bool) (i : ℕ) (blocks : List Block) → AreMarked was before → AreMarked is after → i + length blocks ≤ 64
    → changes_in level before after i blocks ≡ changes_from level was is i blocks
changes-by level was is before after i [] h g few = refl
changes-by level was is before after i (block ∷ blocks) h g few =
    let here : i < 64 = omega (arith, few) in
    ap₂ onto (ap₂ (λ (a b : Bool). change_of level block.sensor a b) (h i here) (g i here)) (changes-by level was is before after (i + 1) blocks h g (omega (arith, few)))

pub changes-marked : (was is : ℕ → Bool) (before after : List Bool) (blocks : List Block) → AreMarked was before → AreMarked is after → length blocks ≤ 64
    → changes_of before after blocks ≡ changes blocks was is
changes-marked was is before after blocks h g few =
    ap₂ (λ (a b : List SensorReport). a ++ b) (changes-by true was is before after 0 blocks h g (omega (arith, few))) (changes-by false was is before after 0 blocks h g (omega (arith, few)))

-- those of a time

pub none_through : (was sensed is : List Bool) (blocks : List Block) → (pointwise beq was sensed && pointwise beq sensed is) ≡ true → changes_through_of was sensed is blocks ≡ []
none_through was sensed is blocks h =
    let parts = and_parts (pointwise beq was sensed) (pointwise beq sensed is) h in
    ap (λ (m : List Bool). changes_in true m sensed 0 blocks ++ changes_in false sensed is 0 blocks) (same-marks was sensed parts.0)
    ∙ ap (λ (m : List Bool). changes_in true sensed sensed 0 blocks ++ changes_in false m is 0 blocks) (same-marks sensed is parts.1)
    ∙ ap₂ (λ (a b : List SensorReport). a ++ b) (no_changes_in true sensed 0 blocks) (no_changes_in false is 0 blocks)

-- the marks of all blocks of a plan are those of the blocks with a level
changes-of : (level : Bool) (was is : ℕ → Bool) (before after : List Bool) (i all : ℕ) (blocks : List Block) → i + length blocks ≤ all
    → ((block : ℕ) → block < all → slice_index_or before block false ≡ was block) → ((block : ℕ) → block < all → slice_index_or after block false ≡ is block)
    → changes_in level before after i blocks ≡ changes_from level was is i blocks
changes-of level was is before after i all [] few h g = refl
changes-of level was is before after i all (block ∷ blocks) few h g =
    let here : i < all = omega (arith, few) in
    ap₂ onto (ap₂ (λ (a b : Bool). change_of level block.sensor a b) (h i here) (g i here)) (changes-of level was is before after (i + 1) all blocks (omega (arith, few)) h g)

pub through-marked : (was sensed is : ℕ → Bool) (before since after : List Bool) (blocks : List Block) → AreMarked was before → AreBlocksMarked blocks sensed since → AreMarked is after → length blocks ≤ 64
    → changes_through_of before since after blocks ≡ changes_through blocks was sensed is
through-marked was sensed is before since after blocks h g f few =
    let all : 0 + length blocks ≤ length blocks = omega arith in
    let of_before : (block : ℕ) → block < length blocks → slice_index_or before block false ≡ was block = λ block within. h block (omega (arith, within, few)) in
    let of_since : (block : ℕ) → block < length blocks → slice_index_or since block false ≡ sensed block = λ block within. g block (omega (arith, within, few)) within in
    let of_after : (block : ℕ) → block < length blocks → slice_index_or after block false ≡ is block = λ block within. f block (omega (arith, within, few)) in
    ap₂ (λ (a b : List SensorReport). a ++ b) (changes-of true was sensed before since 0 (length blocks) blocks all of_before of_since) (changes-of false sensed is since after 0 (length blocks) blocks all of_since of_after)

-- the levels of marks
abbrev pub level_in : List Bool → (block : ℕ) → Bool
level_in marks block = slice_index_or marks block false

pub through-levels : (before since after : List Bool) (blocks : List Block) → length blocks ≤ 64 → changes_through_of before since after blocks ≡ changes_through blocks (level_in before) (level_in since) (level_in after)
through-levels before since after blocks few =
    through-marked (level_in before) (level_in since) (level_in after) before since after blocks (λ block h. refl) (λ block h within. refl) (λ block h. refl) few

pub changes-levels : (before after : List Bool) (blocks : List Block) → length blocks ≤ 64 → changes_of before after blocks ≡ changes blocks (level_in before) (level_in after)
changes-levels before after blocks few = changes-marked (level_in before) (level_in after) before after blocks (λ block h. refl) (λ block h. refl) few

full-by : (is : ℕ → Bool) (marks : List Bool) (i : ℕ) (blocks : List Block) → AreMarked is marks → i + length blocks ≤ 64 → full_in marks i blocks ≡ full_from is i blocks
full-by is marks i [] h few = refl
full-by is marks i (block ∷ blocks) h few =
    let here : i < 64 = omega (arith, few) in
    ap₂ onto (ap (λ (level : Bool). level_of block.sensor level) (h i here)) (full-by is marks (i + 1) blocks h (omega (arith, few)))

pub full-marked : (is : ℕ → Bool) (marks : List Bool) (blocks : List Block) → AreMarked is marks → length blocks ≤ 64 → full_in marks 0 blocks ≡ full blocks is
full-marked is marks blocks h few = full-by is marks 0 blocks h (omega (arith, few))

-- Each block changes at most once to a level.

one-onto : (report : Option SensorReport) (reports : List SensorReport) → length (onto report reports) ≤ length reports + 1
one-onto None reports = omega arith
one-onto (Some report) reports = omega arith

pub few_changes : (level : Bool) (was is : List Bool) (i : ℕ) (blocks : List Block) → length (changes_in level was is i blocks) ≤ length blocks
few_changes level was is i [] = omega arith
few_changes level was is i (block ∷ blocks) =
    omega (arith, few_changes level was is (i + 1) blocks, one-onto (change_of level block.sensor (slice_index_or was i false) (slice_index_or is i false)) (changes_in level was is (i + 1) blocks))
