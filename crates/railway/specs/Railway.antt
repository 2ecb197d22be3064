-- A railway, and what time makes of it.
use Rattle.std.specs.Prelude.{ℕ, zero, suc, ◌/◌, ◌&&◌, ◌||◌, Bool, true, List, length, map, nat_le, nat_lt, if◌then◌else◌, Option, Some, None, slice_get, slice_set}
use Rattle.std.specs.List.{list_all, slice_index_or}
use Rattle.std.specs.Option.{option_or}
use Rattle.decoder_node.specs.declared.node.NodeSpec.{NodeSpec}
use Rattle.layout_core.specs.declared.node.Node.{Node}
use Rattle.refresh_ring.specs.declared.pick.Power.{Power}
use Rattle.refresh_ring.specs.declared.pick.Power.TheVariants.{Off, Running, Paused}
use Rattle.ln_ops.specs.declared.sensor.SensorReport.{SensorReport}
use Rattle.railway.specs.declared.exit.Onward.{Onward}
use Rattle.railway.specs.declared.exit.Onward.TheVariants.{To, BufferStop, Against}
use Rattle.railway.specs.declared.fault.PlaceFault.{PlaceFault}
use Rattle.railway.specs.declared.fault.PlaceFault.TheVariants.{UnknownTrain, UnknownBlock, OffTrack}
use Rattle.railway.specs.declared.failing_sensors.FailingSensors.{FailingSensors}
use Rattle.railway.specs.declared.plan.Plan.{Plan}
use Rattle.railway.specs.declared.train.Position.{Position}
use Rattle.railway.specs.declared.train.Train.{Train}
use Rattle.railway.specs.declared.train.TrainState.{TrainState}
use Rattle.railway.specs.Failures.{none_failing}
use Rattle.railway.specs.Network.{Network, is_sound, is_whole, onward}
use Rattle.railway.specs.Passing.{is_slow}
use Rattle.railway.specs.Placement.{has_front, is_room, state_of_train}
use Rattle.railway.specs.Places.{leading_end, still}
use Rattle.railway.specs.Reports.{changes_through, senses}
use Rattle.railway.specs.Running.{is_within, run_for}
use Rattle.railway.specs.Trains.{default_state, is_movable, running_in}
use Rattle.railway.specs.Turnouts.{advanced, checked, is_calm, laid, network_of}

-- the track as the turnouts lie, the trains as they are, and the sensors that fail
pub record RailwayState : Type 0 where
  pub network : Network
  pub trains : List TrainState
  pub failing : FailingSensors

-- the railway of a plan, with these decoders
abbrev pub planned : List NodeSpec → Plan → RailwayState
planned specs plan = record {
  network = network_of specs plan;
  trains = map (state_of_train (network_of specs plan)) plan.trains.items;
  failing = none_failing;
}

-- a train is at least a millimetre long, has its ends in blocks of the plan within their lengths, is
-- on the rails from its rear to its front and knows the blocks between, or is derailed, has a speed
-- that it can have, and can pass no block unseen
abbrev pub is_train : Network → TrainState → Bool
is_train network train =
    nat_le 1 train.length && is_within network.blocks train && is_whole network train
    && is_movable train && is_slow network.blocks train

-- what holds of every railway
abbrev pub is_railway : RailwayState → Bool
is_railway railway = is_sound railway.network && list_all (is_train railway.network) railway.trains

-- a train after so many microseconds in which its decoder does this
abbrev pub run_in : Network → (micros : ℕ) → List Node → TrainState → TrainState
run_in network micros nodes train =
    run_for network micros (running_in nodes train.decoder) train

-- Without track power a train stands at once.
abbrev pub run_under : Power → Network → (micros : ℕ) → List Node → TrainState → TrainState
run_under Off network micros nodes train = still train
run_under Running network micros nodes train = run_in network micros nodes train
run_under Paused network micros nodes train = run_in network micros nodes train

-- the turnouts lie as the decoders move them, and derail the trains under which they are thrown
abbrev pub laid_in : List Node → RailwayState → RailwayState
laid_in nodes railway = record railway {
  network = laid nodes railway.network;
  trains = map (checked nodes railway.network) railway.trains;
}

-- turnouts move by track power
abbrev pub advanced_under : Power → (micros : ℕ) → Network → Network
advanced_under Off micros network = network
advanced_under Running micros network = advanced micros network
advanced_under Paused micros network = advanced micros network

-- each train runs as its own decoder runs, on the track as the turnouts lie at first
abbrev pub ran_in : Power → (micros : ℕ) → List Node → RailwayState → RailwayState
ran_in power micros nodes railway = record railway {
  network = advanced_under power micros railway.network;
  trains = map (run_under power railway.network micros nodes) railway.trains;
}

-- so many microseconds pass, one after another
unfoldable pub run_through : Power → (micros : ℕ) → List Node → RailwayState → RailwayState
run_through power zero nodes railway = railway
run_through power (suc micros) nodes railway = run_through power micros nodes (ran_in power 1 nodes railway)

-- no turnout comes to lie before the end of a time
abbrev pub is_piece : Power → (micros : ℕ) → Network → Bool
is_piece Off micros network = true
is_piece Running micros network = is_calm micros network
is_piece Paused micros network = is_calm micros network

-- so many microseconds pass in which the decoders do this
abbrev pub elapsed : RailwayState → (micros : ℕ) → Power → List Node → RailwayState
elapsed railway micros power nodes = run_through power micros nodes (laid_in nodes railway)

-- the sensor of a block finds it occupied
abbrev pub is_sensed : RailwayState → (block : ℕ) → Bool
is_sensed railway block = senses railway.failing railway.trains block

-- it does so at a moment of so many microseconds, which pass one after another
unfoldable pub is_sensed_through : Power → (micros : ℕ) → List Node → RailwayState → (block : ℕ)
    → Bool
is_sensed_through power zero nodes railway block = is_sensed railway block
is_sensed_through power (suc micros) nodes railway block =
    is_sensed railway block
    || is_sensed_through power micros nodes (ran_in power 1 nodes railway) block

-- it does so at a moment of a time in which the decoders do this
abbrev pub is_sensed_in : RailwayState → (micros : ℕ) → Power → List Node → (block : ℕ) → Bool
is_sensed_in railway micros power nodes =
    is_sensed_through power micros nodes (laid_in nodes railway)

-- what the sensors report of it
abbrev pub reports_in : RailwayState → (micros : ℕ) → Power → List Node → List SensorReport
reports_in railway micros power nodes =
    changes_through railway.network.blocks (is_sensed railway)
    (is_sensed_in railway micros power nodes) (is_sensed (elapsed railway micros power nodes))

abbrev pub unless_held : Onward → (speed : ℕ) → ℕ
unless_held (To place) speed = speed
unless_held Against speed = speed
unless_held BufferStop speed = 0

-- how fast a train runs, in millimetres a second, rounded down; a buffer stop ahead of the end that
-- leads holds it
abbrev pub shown_speed : Network → TrainState → ℕ
shown_speed network train =
    unless_held (onward network (leading_end train.velocity.forward train))
    (train.velocity.speed / 1000000)

abbrev pub speed_or_none : Network → Option TrainState → ℕ
speed_or_none network None = 0
speed_or_none network (Some train) = shown_speed network train

-- that of the train of this index, if there is one
abbrev pub speed_in : RailwayState → (train : ℕ) → ℕ
speed_in railway train = speed_or_none railway.network (slice_get railway.trains train)

-- a train as one of a plan that has it there
abbrev pub train_at : TrainState → Position → Train
train_at train position = record {
  decoder = train.decoder;
  top = train.top;
  length = train.length;
  momentum = train.momentum;
  position = position;
}

-- a train is put back on the track
abbrev pub replaced : Network → TrainState → Position → TrainState
replaced network train position = state_of_train network (train_at train position)

-- the train of this index, put there
abbrev pub placed_in : RailwayState → (train : ℕ) → Position → RailwayState
placed_in railway train position =
    record railway {
      trains = slice_set railway.trains train
          (replaced railway.network (slice_index_or railway.trains train default_state) position);
    }

-- its front is in the block there, and the track behind it is as long as the train
abbrev pub fits_in : RailwayState → (train : ℕ) → Position → Bool
fits_in railway train position =
    has_front railway.network.blocks position
    && is_room railway.network
    (train_at (slice_index_or railway.trains train default_state) position)

abbrev pub place_unless : Bool → PlaceFault → Option PlaceFault
place_unless holds fault = if holds then None else Some fault

-- why a train cannot be put there, if it cannot
abbrev pub place_fault : RailwayState → (train : ℕ) → Position → Option PlaceFault
place_fault railway train position =
    option_or (place_unless (nat_lt train (length railway.trains)) UnknownTrain)
    (option_or (place_unless (nat_lt position.block (length railway.network.blocks)) UnknownBlock)
    (place_unless (fits_in railway train position) OffTrack))
