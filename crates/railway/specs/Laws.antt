-- What the laws of a railway speak of.
use Rattle.std.specs.Prelude.{ℕ, ◌≡◌, ◌≢◌, ◌⊎◌, ◌*◌, ◌<◌, ◌≤◌, ◌==◌, ◌&&◌, ◌||◌, Bool, true, false, List, [], ◌∷◌, length, Some, IsTrue}
use Rattle.std.specs.List.{list_any, slice_index_or}
use Rattle.layout_core.specs.declared.node.Node.{Node}
use Rattle.refresh_ring.specs.declared.pick.Power.{Power}
use Rattle.ln_ops.specs.declared.sensor.SensorReport.{SensorReport}
use Rattle.motion.specs.Velocity.{goes_only, velocity_after, way}
use Rattle.motion.specs.declared.velocity.Drive.{Drive}
use Rattle.motion.specs.declared.velocity.Velocity.{Velocity}
use Rattle.railway.specs.declared.block.Block.{Block}
use Rattle.railway.specs.declared.block.BlockEnd.{BlockEnd}
use Rattle.railway.specs.declared.failing_sensors.FailingSensors.{FailingSensors}
use Rattle.railway.specs.declared.joint.TurnoutState.{TurnoutState}
use Rattle.railway.specs.declared.train.Place.{Place}
use Rattle.railway.specs.declared.train.TrainState.{TrainState}
use Rattle.railway.specs.declared.turnout_report.TurnoutReport.{TurnoutReport}
use Rattle.railway.specs.Blocks.{default_block, length_of}
use Rattle.railway.specs.Course.{Happening}
use Rattle.railway.specs.Course.Happening.{Elapses, FailuresEnd, Places, SensorFails, TurnoutFails}
use Rattle.railway.specs.Feedback.{report_at}
use Rattle.railway.specs.Network.{Network, is_end_of, is_moving, lies, way_on}
use Rattle.railway.specs.Places.{is_derailed, leading_end, span, turned_place}
use Rattle.railway.specs.Railway.{RailwayState, elapsed, is_sensed, run_under}
use Rattle.railway.specs.Reports.{occupies}
use Rattle.railway.specs.Trains.{default_state, drive_of, is_forward, running_in, speed_of}
use Rattle.railway.specs.Turnouts.{checked, laid, same_bool}

-- the place is in a block of the plan, within its length
pub record IsOnTrack (blocks : List Block) (place : Place) : Type 0 where
  pub of_plan : place.block < length blocks
  pub within : place.at < length_of blocks place.block

-- Both ends of a train are on the track. Unless it is derailed, the track leads from its rear to its
-- front and back, over exactly its length.
pub record IsOnRails (network : Network) (train : TrainState) : Type 0 where
  pub front : IsOnTrack network.blocks train.front
  pub rear : IsOnTrack network.blocks train.rear
  pub apart : is_derailed train ≡ false → way_on network train.rear (span train) ≡ Some train.front
  pub back : is_derailed train ≡ false
      → way_on network (turned_place train.front) (span train) ≡ Some (turned_place train.rear)

-- a place on a way is in the block
pub record IsOnWay (network : Network) (from : Place) (way block : ℕ) : Type 0 where
  pub part : ℕ
  pub within : part ≤ way
  pub place : Place
  pub there : way_on network from part ≡ Some place
  pub in_block : place.block ≡ block

-- a train after so many microseconds in which the decoders do this: as the turnouts lie then
abbrev pub train_after : Power → Network → (micros : ℕ) → List Node → TrainState → TrainState
train_after power network micros nodes train =
    run_under power (laid nodes network) micros nodes (checked nodes network train)

-- what a train is asked for by its decoder
abbrev pub asked_of : List Node → TrainState → Drive
asked_of nodes train = drive_of train (running_in nodes train.decoder)

-- the velocity of its motor after so many microseconds, one after another
abbrev pub velocity_of : List Node → (micros : ℕ) → TrainState → Velocity
velocity_of nodes micros train = velocity_after (asked_of nodes train) micros train.velocity

-- how far its motor runs it in them
abbrev pub way_of : List Node → (micros : ℕ) → TrainState → ℕ
way_of nodes micros train = way (asked_of nodes train) micros train.velocity

-- its motor has this direction in each of them
abbrev pub runs_only : (forward : Bool) → List Node → (micros : ℕ) → TrainState → Bool
runs_only forward nodes micros train =
    goes_only forward (asked_of nodes train) micros train.velocity

-- its motor has one direction in all of them
abbrev pub is_one_way : List Node → (micros : ℕ) → TrainState → Bool
is_one_way nodes micros train =
    runs_only true nodes micros train || runs_only false nodes micros train

-- its motor stands at a moment within so many microseconds
pub record StandsBetween (nodes : List Node) (micros : ℕ) (train : TrainState) : Type 0 where
  pub moment : ℕ
  pub within : moment ≤ micros
  pub stands : (velocity_of nodes moment train).speed ≡ 0

-- the end that leads as its decoder runs
abbrev pub leading : List Node → TrainState → Place
leading nodes train = leading_end (is_forward (running_in nodes train.decoder)) train

-- its speed times the time
abbrev pub speed_times_time : List Node → (micros : ℕ) → TrainState → ℕ
speed_times_time nodes micros train =
    speed_of train.top (running_in nodes train.decoder) * micros

-- the end is one of a turnout that moves
abbrev pub is_moving_end : List TurnoutState → BlockEnd → Bool
is_moving_end states end = list_any (λ state. is_moving state && is_end_of end state) states

-- a happening is a time
abbrev pub is_time : Happening → Bool
is_time (Elapses micros power nodes) = true
is_time other = false

-- a happening is a failure, or ends all
abbrev pub is_failure : Happening → Bool
is_failure (Elapses micros power nodes) = false
is_failure (Places train position) = false
is_failure (SensorFails sensor occupied) = true
is_failure (TurnoutFails switch) = true
is_failure FailuresEnd = true

-- it is one of a sensor
abbrev pub is_sensor_failure : Happening → Bool
is_sensor_failure (TurnoutFails switch) = false
is_sensor_failure other = is_failure other

-- the failing sensors are those of all blocks
abbrev pub HasAllBlocks : FailingSensors → Type 0
HasAllBlocks failing = (length failing.occupied ≡ 64) × (length failing.free ≡ 64)

-- the sensor of a block finds it occupied at a moment of so many microseconds
pub record IsSensedAt (railway : RailwayState) (micros : ℕ) (power : Power) (nodes : List Node)
    (block : ℕ) : Type 0 where
  pub moment : ℕ
  pub within : moment ≤ micros
  pub sensed : IsTrue (is_sensed (elapsed railway moment power nodes) block)

-- A part of a train is in the block of a sensor at a moment of them, and the sensor does not fail as
-- free.
pub record IsVisited (railway : RailwayState) (micros : ℕ) (power : Power) (nodes : List Node)
    (block sensor : ℕ) : Type 0 where
  pub of_plan : block < length railway.network.blocks
  pub has_sensor : (slice_index_or railway.network.blocks block default_block).sensor ≡ Some sensor
  pub works : slice_index_or railway.failing.free block false ≡ false
  pub train : ℕ
  pub of_railway : train < length railway.trains
  pub moment : ℕ
  pub within : moment ≤ micros
  pub there : IsTrue (occupies block
      (slice_index_or (elapsed railway moment power nodes).trains train default_state))

-- A report is one of a change: that of a block as occupied is of a sensor that found it free before
-- and occupied at a moment of the time; that of a block as free of one that found it occupied, before
-- or then, and finds it free in the end.
pub record IsSensorChange (blocks : List Block) (was sensed is : (block : ℕ) → Bool)
    (report : SensorReport) : Type 0 where
  pub block : ℕ
  pub of_plan : block < length blocks
  pub sensor : (slice_index_or blocks block default_block).sensor ≡ Some report.sensor
  pub found : IsTrue (sensed block)
  pub before : IsTrue report.occupied → was block ≡ false
  pub after : report.occupied ≡ false → is block ≡ false

-- each of the reports is one of a change
abbrev pub AreSensorChanges : List Block → (was sensed is : (block : ℕ) → Bool) → List SensorReport
    → Type 0
AreSensorChanges blocks was sensed is [] = Unit {0}
AreSensorChanges blocks was sensed is (report ∷ reports) =
    IsSensorChange blocks was sensed is report × AreSensorChanges blocks was sensed is reports

-- A report is one of a completed movement: of a turnout with feedback that moved, or lay at the other
-- side, and now lies where the report says.
pub record IsCompleted (was is : List TurnoutState) (none : TurnoutState)
    (report : TurnoutReport) : Type 0 where
  pub turnout : ℕ
  pub of_plan : turnout < length is
  pub feedback : IsTrue (slice_index_or is turnout none).turnout.has_feedback
  pub reported : report ≡ report_at (slice_index_or is turnout none)
  pub lies_now : IsTrue (lies (slice_index_or is turnout none))
  pub moved : IsTrue (is_moving (slice_index_or was turnout none))
      ⊎ ((slice_index_or was turnout none).is_thrown
      ≢ (slice_index_or is turnout none).is_thrown)

-- each of the reports is one of a completed movement
abbrev pub AreCompleted : (was is : List TurnoutState) → (none : TurnoutState)
    → List TurnoutReport → Type 0
AreCompleted was is none [] = Unit {0}
AreCompleted was is none (report ∷ reports) =
    IsCompleted was is none report × AreCompleted was is none reports

-- this report is among these
abbrev pub is_among : TurnoutReport → List TurnoutReport → Bool
is_among report reports =
    list_any (λ one. one.switch == report.switch && same_bool one.is_thrown report.is_thrown)
    reports

-- two different trains are in the block
pub record IsConflict (trains : List TrainState) (block first second : ℕ)
    (none : TrainState) : Type 0 where
  pub apart : first < second
  pub of_railway : second < length trains
  pub first_in_block : IsTrue (occupies block (slice_index_or trains first none))
  pub second_in_block : IsTrue (occupies block (slice_index_or trains second none))
