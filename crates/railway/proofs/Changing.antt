-- Each report is one of a change.
use Rattle.std.proofs.Common.{◌≡◌, ℕ, suc, ◌+◌, ◌<◌, ◌++◌, Bool, true, false, List, [], ◌∷◌, Option, Some, None, length, refl, ap, subst, arith}
use Rattle.std.specs.List.{slice_index_or}
use Rattle.ln_ops.specs.declared.sensor.SensorReport.{SensorReport}
use Rattle.railway.specs.declared.block.Block.{Block}
use Rattle.railway.specs.Blocks.{default_block}
use Rattle.railway.specs.Laws.{AreSensorChanges, IsSensorChange}
use Rattle.railway.specs.Reports.{change_of, changes_from, changes_through, onto}

-- a report, if there is one, is one of a change
abbrev IsOne : List Block → (was sensed is : ℕ → Bool) → Option SensorReport → Type 0
IsOne blocks was sensed is None = Unit {0}
IsOne blocks was sensed is (Some report) = IsSensorChange blocks was sensed is report

onto-changes : (blocks : List Block) (was sensed is : ℕ → Bool) (report : Option SensorReport) (reports : List SensorReport) → IsOne blocks was sensed is report → AreSensorChanges blocks was sensed is reports → AreSensorChanges blocks was sensed is (onto report reports)
onto-changes blocks was sensed is None reports h rest = rest
onto-changes blocks was sensed is (Some report) reports h rest = (h, rest)

append-changes : (blocks : List Block) (was sensed is : ℕ → Bool) (these those : List SensorReport) → AreSensorChanges blocks was sensed is these → AreSensorChanges blocks was sensed is those → AreSensorChanges blocks was sensed is (these ++ those)
append-changes blocks was sensed is [] those h g = g
append-changes blocks was sensed is (report ∷ these) those h g = (h.0, append-changes blocks was sensed is these those h.1 g)

-- a sensor that changes to a level
abbrev IsEach : List Block → (was sensed is : ℕ → Bool) → (level : Bool) → (before after : ℕ → Bool) → Type 0
IsEach blocks was sensed is level before after =
    (i : ℕ) → i < length blocks → (sensor : Option ℕ) → (slice_index_or blocks i default_block).sensor ≡ sensor → IsOne blocks was sensed is (change_of level sensor (before i) (after i))

one-rise : (blocks : List Block) (was sensed is : ℕ → Bool) (i : ℕ) → i < length blocks → (sensor : Option ℕ) → (slice_index_or blocks i default_block).sensor ≡ sensor
    → (before after : Bool) → was i ≡ before → sensed i ≡ after → IsOne blocks was sensed is (change_of true sensor before after)
one-rise blocks was sensed is i h None s before after b a = tt
one-rise blocks was sensed is i h (Some sensor) s true true b a = tt
one-rise blocks was sensed is i h (Some sensor) s true false b a = tt
one-rise blocks was sensed is i h (Some sensor) s false true b a = record { block = i; of_plan = h; sensor = s; found = a; before = λ _. b; after = λ e. cc }
one-rise blocks was sensed is i h (Some sensor) s false false b a = tt

one-fall : (blocks : List Block) (was sensed is : ℕ → Bool) (i : ℕ) → i < length blocks → (sensor : Option ℕ) → (slice_index_or blocks i default_block).sensor ≡ sensor
    → (before after : Bool) → sensed i ≡ before → is i ≡ after → IsOne blocks was sensed is (change_of false sensor before after)
one-fall blocks was sensed is i h None s before after b a = tt
one-fall blocks was sensed is i h (Some sensor) s true true b a = tt
one-fall blocks was sensed is i h (Some sensor) s true false b a = record { block = i; of_plan = h; sensor = s; found = b; before = λ e. cc; after = λ _. a }
one-fall blocks was sensed is i h (Some sensor) s false true b a = tt
one-fall blocks was sensed is i h (Some sensor) s false false b a = tt

-- these are the blocks from i on
abbrev IsRest : (all rest : List Block) (i : ℕ) → Type 0
IsRest all rest i = (j : ℕ) → j < length rest → (i + j < length all) × (slice_index_or all (i + j) default_block ≡ slice_index_or rest j default_block)

next-rest : (all rest : List Block) (block : Block) (i : ℕ) → IsRest all (block ∷ rest) i → IsRest all rest (i + 1)
next-rest all rest block i h j less =
    let more : suc j < length (block ∷ rest) = omega (arith, less) in
    let same : i + suc j ≡ i + 1 + j = omega arith in
    subst (λ (k : ℕ). (k < length all) × (slice_index_or all k default_block ≡ slice_index_or rest j default_block)) same (h (suc j) more)

from-changes : (all : List Block) (was sensed is : ℕ → Bool) (level : Bool) (before after : ℕ → Bool) → IsEach all was sensed is level before after
    → (i : ℕ) (rest : List Block) → IsRest all rest i → AreSensorChanges all was sensed is (changes_from level before after i rest)
from-changes all was sensed is level before after each i [] h = tt
from-changes all was sensed is level before after each i (block ∷ rest) h =
    let first : 0 < length (block ∷ rest) = omega arith in
    let same : i + 0 ≡ i = omega arith in
    let here = subst (λ (k : ℕ). (k < length all) × (slice_index_or all k default_block ≡ block)) same (h 0 first) in
    onto-changes all was sensed is (change_of level block.sensor (before i) (after i)) (changes_from level before after (i + 1) rest)
    (each i here.0 block.sensor (ap (λ (b : Block). b.sensor) here.1))
    (from-changes all was sensed is level before after each (i + 1) rest (next-rest all rest block i h))

all-rest : (all : List Block) → IsRest all all 0
all-rest all j less =
    let same : j ≡ 0 + j = omega arith in
    subst (λ (k : ℕ). (k < length all) × (slice_index_or all k default_block ≡ slice_index_or all j default_block)) same (less, refl)

pub are-changes : (blocks : List Block) (was sensed is : ℕ → Bool) → AreSensorChanges blocks was sensed is (changes_through blocks was sensed is)
are-changes blocks was sensed is =
    append-changes blocks was sensed is (changes_from true was sensed 0 blocks) (changes_from false sensed is 0 blocks)
    (from-changes blocks was sensed is true was sensed (λ i h sensor s. one-rise blocks was sensed is i h sensor s (was i) (sensed i) refl refl) 0 blocks (all-rest blocks))
    (from-changes blocks was sensed is false sensed is (λ i h sensor s. one-fall blocks was sensed is i h sensor s (sensed i) (is i) refl refl) 0 blocks (all-rest blocks))
