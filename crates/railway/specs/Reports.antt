-- What sensors report, and what an observer knows by it.
use Rattle.std.specs.Prelude.{ℕ, ◌≡◌, ◌<◌, ◌+◌, ◌==◌, ◌&&◌, ◌||◌, ◌++◌, Bool, true, false, nat_lt, not, if◌then◌else◌, List, [], ◌∷◌, length, Option, Some, None}
use Rattle.std.specs.Bool.{beq}
use Rattle.std.specs.Cmp.Lexicographic.{pointwise}
use Rattle.std.specs.List.{list_any, slice_index_or}
use Rattle.ln_ops.specs.Sensor.{is_sensor}
use Rattle.ln_ops.specs.declared.sensor.SensorReport.{SensorReport}
use Rattle.railway.specs.declared.block.Block.{Block}
use Rattle.railway.specs.declared.failing_sensors.FailingSensors.{FailingSensors}
use Rattle.railway.specs.declared.train.TrainState.{TrainState}
use Rattle.railway.specs.Turnouts.{same_bool}

-- a part of a train is in the block
abbrev pub occupies : (block : ℕ) → TrainState → Bool
occupies block train = nat_lt block 64 && slice_index_or train.under block false

-- a train is in the same blocks as another
abbrev pub same_blocks : TrainState → TrainState → Bool
same_blocks one other = pointwise beq one.under other.under

-- a part of one of the trains is
abbrev pub is_occupied : List TrainState → (block : ℕ) → Bool
is_occupied trains block = list_any (occupies block) trains

-- The sensor of a block finds it occupied: a part of one of the trains is in it. One that fails
-- finds what its failure says.
abbrev pub senses : FailingSensors → List TrainState → (block : ℕ) → Bool
senses failing trains block =
    (is_occupied trains block || slice_index_or failing.occupied block false)
    && not (slice_index_or failing.free block false)

-- a report of a sensor, 1 to 4096
abbrev pub is_report : SensorReport → Bool
is_report report = is_sensor report.sensor

-- what a sensor reports whose block changes to this level, if it does
abbrev pub change_of : (level : Bool) → Option ℕ → (was is : Bool) → Option SensorReport
change_of level None was is = None
change_of level (Some sensor) was is =
    if same_bool is level && not (same_bool was level) then
    Some (record { sensor = sensor; occupied = level }) else None

abbrev pub onto : Option SensorReport → List SensorReport → List SensorReport
onto None reports = reports
onto (Some report) reports = report ∷ reports

-- what sensors report whose blocks change to this level, from block i on
abbrev pub changes_from : (level : Bool) → (was is : (block : ℕ) → Bool) → (i : ℕ) → List Block
    → List SensorReport
changes_from level was is i [] = []
changes_from level was is i (block ∷ blocks) =
    onto (change_of level block.sensor (was i) (is i)) (changes_from level was is (i + 1) blocks)

-- what they report as their levels change: each block that becomes occupied, then each that becomes
-- free
abbrev pub changes : List Block → (was is : (block : ℕ) → Bool) → List SensorReport
changes blocks was is = changes_from true was is 0 blocks ++ changes_from false was is 0 blocks

-- What they report of a time: each that found its block free before, and occupied at a moment of it;
-- then each that found it occupied, before or then, and finds it free in the end.
abbrev pub changes_through : List Block → (was sensed is : (block : ℕ) → Bool) → List SensorReport
changes_through blocks was sensed is =
    changes_from true was sensed 0 blocks ++ changes_from false sensed is 0 blocks

-- these marks are those of the blocks with this level
abbrev pub AreMarked : (is : (block : ℕ) → Bool) → (marks : List Bool) → Type 0
AreMarked is marks = (block : ℕ) → block < 64 → slice_index_or marks block false ≡ is block

-- these marks are those of the blocks of a plan with this level
abbrev pub AreBlocksMarked : List Block → (is : (block : ℕ) → Bool) → (marks : List Bool) → Type 0
AreBlocksMarked blocks is marks =
    (block : ℕ) → block < 64 → block < length blocks → slice_index_or marks block false ≡ is block

-- what sensors report that found the blocks with these marks occupied and now find those with others
abbrev pub changes_in : (level : Bool) → (was is : List Bool) → (i : ℕ) → List Block
    → List SensorReport
changes_in level was is i [] = []
changes_in level was is i (block ∷ blocks) =
    onto (change_of level block.sensor (slice_index_or was i false) (slice_index_or is i false))
    (changes_in level was is (i + 1) blocks)

abbrev pub changes_of : (was is : List Bool) → List Block → List SensorReport
changes_of was is blocks = changes_in true was is 0 blocks ++ changes_in false was is 0 blocks

abbrev pub changes_through_of : (was sensed is : List Bool) → List Block → List SensorReport
changes_through_of was sensed is blocks =
    changes_in true was sensed 0 blocks ++ changes_in false sensed is 0 blocks

-- the report of a sensor with this level
abbrev pub level_of : Option ℕ → Bool → Option SensorReport
level_of None is = None
level_of (Some sensor) is = Some (record { sensor = sensor; occupied = is })

abbrev pub full_from : (is : (block : ℕ) → Bool) → (i : ℕ) → List Block → List SensorReport
full_from is i [] = []
full_from is i (block ∷ blocks) =
    onto (level_of block.sensor (is i)) (full_from is (i + 1) blocks)

-- a full report: each sensor with its level
abbrev pub full : List Block → (is : (block : ℕ) → Bool) → List SensorReport
full blocks is = full_from is 0 blocks

-- a full report of sensors that find the blocks with these marks occupied, from block i on
abbrev pub full_in : (is : List Bool) → (i : ℕ) → List Block → List SensorReport
full_in is i [] = []
full_in is i (block ∷ blocks) =
    onto (level_of block.sensor (slice_index_or is i false)) (full_in is (i + 1) blocks)

-- a report of a sensor with this level is among these
abbrev pub has_report : (sensor : ℕ) → (level : Bool) → List SensorReport → Bool
has_report sensor level reports =
    list_any (λ report. report.sensor == sensor && same_bool report.occupied level) reports

-- the level that an observer of these reports knows of a sensor: that of its last one
abbrev pub level_after : List SensorReport → (sensor : ℕ) → Bool → Bool
level_after [] sensor level = level
level_after (report ∷ reports) sensor level =
    level_after reports sensor (if report.sensor == sensor then report.occupied else level)
