-- How trains run as their decoders run.
use Rattle.std.specs.Prelude.{ℕ, zero, suc, ◌&&◌, Bool, if◌then◌else◌, List, Option}
use Rattle.decoder_node.specs.declared.running.Running.{Running}
use Rattle.motion.specs.Velocity.{next_velocity}
use Rattle.motion.specs.declared.velocity.Drive.{Drive}
use Rattle.motion.specs.declared.velocity.Velocity.{Velocity}
use Rattle.railway.specs.declared.block.Block.{Block}
use Rattle.railway.specs.declared.train.TrainState.{TrainState}
use Rattle.railway.specs.Network.{Network, marked, run_on}
use Rattle.railway.specs.Places.{is_derailed, is_on_track, turned}
use Rattle.railway.specs.Trains.{drive_of, is_movable}

-- both ends of a train are in blocks of the plan, within their lengths
abbrev pub is_within : List Block → TrainState → Bool
is_within blocks train = is_on_track blocks train.front && is_on_track blocks train.rear

-- a train that can run there
abbrev pub can_run : List Block → TrainState → Bool
can_run blocks train = is_within blocks train && is_movable train

-- a train runs so far, with its front ahead or its rear
abbrev pub run_by : Network → (forward : Bool) → (way : ℕ) → TrainState → TrainState
run_by network forward way train =
    if forward then run_on network train way else turned (run_on network (turned train) way)

-- a train of this velocity goes so far, unless it is derailed
abbrev pub moved_at : Network → Velocity → (way : ℕ) → TrainState → TrainState
moved_at network v way train =
    if is_derailed train then train else
    run_by network v.forward way (record train { velocity = v })

-- a train in a microsecond in which this is asked of it: a femtometre a microsecond is a femtometre
abbrev pub rode : Network → Drive → TrainState → TrainState
rode network drive train =
    moved_at network (next_velocity drive train.velocity)
    (next_velocity drive train.velocity).speed train

-- in so many microseconds, one after another
unfoldable pub ridden : Network → Drive → (micros : ℕ) → TrainState → TrainState
ridden network drive zero train = train
ridden network drive (suc micros) train = ridden network drive micros (rode network drive train)

-- A train runs as its decoder runs, and then knows the blocks under it. A derailed one stands.
abbrev pub run_for : Network → (micros : ℕ) → Option Running → TrainState → TrainState
run_for network micros running train =
    if is_derailed train then train else
    marked network (ridden network (drive_of train running) micros train)
