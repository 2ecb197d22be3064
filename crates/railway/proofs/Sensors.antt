-- Reports are of sensors 1 to 4096.
use Rattle.std.proofs.Common.{◌≡◌, ℕ, ◌+◌, ◌&&◌, ◌++◌, Bool, true, false, not, List, [], ◌∷◌, Option, Some, None, refl}
use Rattle.std.proofs.lemmas.Bool.{and_from, and_parts}
use Rattle.std.specs.List.{list_all}
use Rattle.std.specs.Prelude.{if◌then◌else◌}
use Rattle.ln_ops.specs.declared.sensor.SensorReport.{SensorReport}
use Rattle.railway.specs.declared.block.Block.{Block}
use Rattle.railway.specs.Blocks.{is_block, is_block_sensor, is_length}
use Rattle.railway.specs.Turnouts.{same_bool}
use Rattle.railway.specs.Reports.{changes, changes_from, changes_through, full, full_from, level_of, is_report, onto, change_of}

abbrev IsLegal : Option SensorReport → Type 0
IsLegal None = Unit {0}
IsLegal (Some report) = is_report report ≡ true

legal_onto : (report : Option SensorReport) (reports : List SensorReport) → IsLegal report → list_all is_report reports ≡ true → list_all is_report (onto report reports) ≡ true
legal_onto None reports h rest = rest
legal_onto (Some report) reports h rest = and_from (is_report report) (list_all is_report reports) h rest

legal_report : (level : Bool) (sensor : Option ℕ) (was is : Bool) → is_block_sensor sensor ≡ true → IsLegal (change_of level sensor was is)
legal_report level None was is h = tt
legal_report level (Some sensor) was is h = chosen (same_bool is level && not (same_bool was level)) where
  chosen : (b : Bool) → IsLegal (if b then Some (record { sensor = sensor; occupied = level }) else None)
  chosen true = h
  chosen false = tt

legal_full : (sensor : Option ℕ) (is : Bool) → is_block_sensor sensor ≡ true → IsLegal (level_of sensor is)
legal_full None is h = tt
legal_full (Some sensor) is h = h

sensor_of : (block : Block) → is_block block ≡ true → is_block_sensor block.sensor ≡ true
sensor_of block h = (and_parts (is_length block.length) (is_block_sensor block.sensor) h).1

legal_from : (level : Bool) (was is : ℕ → Bool) (i : ℕ) (blocks : List Block) → list_all is_block blocks ≡ true → list_all is_report (changes_from level was is i blocks) ≡ true
legal_from level was is i [] h = refl
legal_from level was is i (block ∷ blocks) h =
    let parts = and_parts (is_block block) (list_all is_block blocks) h in
    legal_onto (change_of level block.sensor (was i) (is i)) (changes_from level was is (i + 1) blocks)
    (legal_report level block.sensor (was i) (is i) (sensor_of block parts.0)) (legal_from level was is (i + 1) blocks parts.1)

legal-append : (these those : List SensorReport) → list_all is_report these ≡ true → list_all is_report those ≡ true → list_all is_report (these ++ those) ≡ true
legal-append [] those h g = g
legal-append (report ∷ these) those h g =
    let parts = and_parts (is_report report) (list_all is_report these) h in
    and_from (is_report report) (list_all is_report (these ++ those)) parts.0 (legal-append these those parts.1 g)

pub legal_changes : (blocks : List Block) (was is : ℕ → Bool) → list_all is_block blocks ≡ true → list_all is_report (changes blocks was is) ≡ true
legal_changes blocks was is h =
    legal-append (changes_from true was is 0 blocks) (changes_from false was is 0 blocks) (legal_from true was is 0 blocks h) (legal_from false was is 0 blocks h)

pub legal_through : (blocks : List Block) (was sensed is : ℕ → Bool) → list_all is_block blocks ≡ true → list_all is_report (changes_through blocks was sensed is) ≡ true
legal_through blocks was sensed is h =
    legal-append (changes_from true was sensed 0 blocks) (changes_from false sensed is 0 blocks) (legal_from true was sensed 0 blocks h) (legal_from false sensed is 0 blocks h)

legal_full_from : (is : ℕ → Bool) (i : ℕ) (blocks : List Block) → list_all is_block blocks ≡ true → list_all is_report (full_from is i blocks) ≡ true
legal_full_from is i [] h = refl
legal_full_from is i (block ∷ blocks) h =
    let parts = and_parts (is_block block) (list_all is_block blocks) h in
    legal_onto (level_of block.sensor (is i)) (full_from is (i + 1) blocks) (legal_full block.sensor (is i) (sensor_of block parts.0)) (legal_full_from is (i + 1) blocks parts.1)

pub legal_all : (blocks : List Block) (is : ℕ → Bool) → list_all is_block blocks ≡ true → list_all is_report (full blocks is) ≡ true
legal_all blocks is h = legal_full_from is 0 blocks h
