use Rattle.std.proofs.Common.{◌≡◌, ◌≢◌, ◌<◌, ◌||◌, ◌&&◌, ℕ, Bool, true, false, not, List, Option, None, Some, refl, ap₂, arith, length-set, ◌∙◌}
use Rattle.std.proofs.lemmas.List.{get_or-replicate, get_or-set_other, get_or-set_same}
use Rattle.std.specs.Prelude.{IsTrue}
use Rattle.railway.specs.declared.failing_sensors.FailingSensors.{FailingSensors}
use Rattle.railway.specs.declared.train.TrainState.{TrainState}
use Rattle.railway.specs.Course.{Happening, after, sensor_failed, unless_refused}
use Rattle.railway.specs.Course.Happening.{Elapses, FailuresEnd, Places, SensorFails, TurnoutFails}
use Rattle.railway.specs.Failures.{block_with, none_failing, with_sensor}
use Rattle.railway.specs.Laws.{HasAllBlocks, is_failure, is_sensor_failure}
use Rattle.railway.specs.Railway.{RailwayState, laid_in, place_fault, placed_in}
use Rattle.railway.specs.Reports.{is_occupied, senses}
use Rattle.railway.proofs.Faulty.{run_through-failing}
use Rattle.railway.proofs.laws.failing_sensors_keep_their_level.Goals as goal

by-marks : (there occupied : Bool) → ((there || occupied) && not (not occupied)) ≡ occupied
by-marks true true = refl
by-marks true false = refl
by-marks false true = refl
by-marks false false = refl

level-own : (failing : FailingSensors) (trains : List TrainState) (block : ℕ) (occupied : Bool) → HasAllBlocks failing → block < 64 → senses (with_sensor failing block occupied) trains block ≡ occupied
level-own failing trains block occupied h less =
    let first = get_or-set_same failing.occupied block occupied false (omega (arith, less, h.0)) in
    let second = get_or-set_same failing.free block (not occupied) false (omega (arith, less, h.1)) in
    ap₂ (λ (a b : Bool). (is_occupied trains block || a) && not b) first second ∙ by-marks (is_occupied trains block) occupied

level-other : (failing : FailingSensors) (trains : List TrainState) (block other : ℕ) (occupied : Bool) → other ≢ block → senses (with_sensor failing block occupied) trains other ≡ senses failing trains other
level-other failing trains block other occupied apart =
    ap₂ (λ (a b : Bool). (is_occupied trains other || a) && not b) (get_or-set_other failing.occupied block other occupied false apart) (get_or-set_other failing.free block other (not occupied) false apart)

all-blocks : (failing : FailingSensors) (block : ℕ) (occupied : Bool) → HasAllBlocks failing → HasAllBlocks (with_sensor failing block occupied)
all-blocks failing block occupied h = (length-set failing.occupied block occupied ∙ h.0, length-set failing.free block (not occupied) ∙ h.1)

as-there : (there : Bool) → ((there || false) && not false) ≡ there
as-there true = refl
as-there false = refl

none-failing : (trains : List TrainState) (block : ℕ) → block < 64 → senses none_failing trains block ≡ is_occupied trains block
none-failing trains block less =
    let mark = get_or-replicate 64 block false false less in
    ap₂ (λ (a b : Bool). (is_occupied trains block || a) && not b) mark mark ∙ as-there (is_occupied trains block)

stays : (railway : RailwayState) (happening : Happening) → is_sensor_failure happening ≡ false → (after railway happening).failing ≡ railway.failing
stays railway (Elapses micros power nodes) h = run_through-failing power nodes micros (laid_in nodes railway)
stays railway (Places train position) h = either (place_fault railway train position) where
  either : (fault : _) → (unless_refused fault (placed_in railway train position) railway).failing ≡ railway.failing
  either None = refl
  either (Some fault) = refl
stays railway (SensorFails sensor occupied) h = cc
stays railway (TurnoutFails switch) h = refl
stays railway FailuresEnd h = cc

moves-none : (railway : RailwayState) (happening : Happening) → IsTrue (is_failure happening) → (after railway happening).trains ≡ railway.trains
moves-none railway (Elapses micros power nodes) h = cc
moves-none railway (Places train position) h = cc
moves-none railway (SensorFails sensor occupied) h = either (block_with sensor railway.network.blocks) where
  either : (block : Option ℕ) → (sensor_failed block occupied railway).trains ≡ railway.trains
  either None = refl
  either (Some block) = refl
moves-none railway (TurnoutFails switch) h = refl
moves-none railway FailuresEnd h = refl

pub returns : goal.returns
returns c = record {
  level = level-own;
  others = level-other;
  blocks = all-blocks;
  none = none-failing;
  stays = stays;
  trains = moves-none;
}
