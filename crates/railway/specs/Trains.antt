-- Trains, and how fast their decoders run them.
use Rattle.std.specs.Prelude.{ℕ, ◌*◌, ◌/◌, ◌&&◌, Bool, true, nat_le, nat_lt, min, not, is_some, List, Option, Some, None, slice_get}
use Rattle.std.specs.Option.{option_and_then}
use Rattle.dcc_packet.specs.declared.steps.Motion.{Motion}
use Rattle.dcc_packet.specs.declared.steps.Motion.TheVariants.{Stop, Emergency, Step}
use Rattle.dcc_packet.specs.declared.steps.Steps.{Steps}
use Rattle.dcc_packet.specs.declared.steps.Steps.TheVariants.{S14, S28, S128}
use Rattle.decoder_node.specs.declared.running.Running.{Running}
use Rattle.layout_core.specs.declared.node.Node.{Node}
use Rattle.layout_core.specs.Nodes.{running_of}
use Rattle.motion.specs.Velocity.{is_momentum, same_bool, velocity}
use Rattle.motion.specs.declared.velocity.Drive.{Drive}
use Rattle.motion.specs.declared.velocity.Momentum.{Momentum}
use Rattle.motion.specs.declared.velocity.Velocity.{Velocity}
use Rattle.railway.specs.declared.block.End.TheVariants.{A}
use Rattle.railway.specs.declared.train.Place.{Place}
use Rattle.railway.specs.declared.train.Position.{Position}
use Rattle.railway.specs.declared.train.Train.{Train}
use Rattle.railway.specs.declared.train.TrainState.{TrainState}
use Rattle.railway.specs.Blocks.{no_blocks}

abbrev pub default_position : Position
default_position = record { block = 0; at = 0; facing = A }

abbrev pub default_train : Train
default_train =
    record { decoder = 0; top = 0; length = 1; momentum = None; position = default_position }

abbrev pub default_place : Place
default_place = record { block = 0; at = 0; toward = A }

-- a train at rest
abbrev pub standstill : Velocity
standstill = velocity true 0

abbrev pub default_state : TrainState
default_state = record {
  decoder = 0;
  top = 0;
  length = 1;
  momentum = None;
  front = default_place;
  rear = default_place;
  velocity = standstill;
  derailed_at = None;
  under = no_blocks;
}

-- the last step of a decoder
abbrev pub last_step : Steps → ℕ
last_step S14 = 14
last_step S28 = 28
last_step S128 = 126

-- the speed of a motion in femtometres a microsecond, rounded down; `top` is that of the last step in
-- millimetres a second. No train is faster than at its last step, nor than 2 ^ 41, some 2 kilometres a
-- second.
abbrev pub speed_at : (top : ℕ) → Motion → ℕ
speed_at top Stop = 0
speed_at top Emergency = 0
speed_at top (Step steps n) =
    min (top * 1000000 * min n (last_step steps) / last_step steps) 2199023255552

-- Without a locomotive decoder a train is to stand.
abbrev pub speed_of : (top : ℕ) → Option Running → ℕ
speed_of top None = 0
speed_of top (Some running) = speed_at top running.motion

abbrev pub is_forward : Option Running → Bool
is_forward None = true
is_forward (Some running) = running.forward

-- An emergency stop is at once (NMRA S-9.2, step 1).
abbrev pub momentum_at : Motion → Option Momentum → Option Momentum
momentum_at Stop momentum = momentum
momentum_at Emergency momentum = None
momentum_at (Step steps n) momentum = momentum

abbrev pub momentum_of : Option Running → Option Momentum → Option Momentum
momentum_of None momentum = momentum
momentum_of (Some running) momentum = momentum_at running.motion momentum

-- what a train is asked for by its decoder
abbrev pub drive_of : TrainState → Option Running → Drive
drive_of train running = record {
  forward = is_forward running;
  speed = speed_of train.top running;
  momentum = momentum_of running train.momentum;
}

-- It is to turn round: its motor runs the other way than its decoder asks for, and has momentum.
abbrev pub turns_round : Option Running → TrainState → Bool
turns_round running train =
    is_some train.momentum && nat_lt 0 train.velocity.speed
    && not (same_bool train.velocity.forward (is_forward running))

-- a train with a speed that it can have, and rates of at least 1
abbrev pub is_movable : TrainState → Bool
is_movable train = nat_le train.velocity.speed 2199023255552 && is_momentum train.momentum

-- how the decoder of this index runs, if it is one of a locomotive
abbrev pub running_in : List Node → (decoder : ℕ) → Option Running
running_in nodes decoder = option_and_then running_of (slice_get nodes decoder)
