-- Sensors and turnouts that fail on request (own).
use Rattle.std.specs.Prelude.{ℕ, ◌==◌, ◌||◌, Bool, false, nat_eq, not, List, Option, Some, None, map, position, slice_set}
use Rattle.std.specs.List.{list_any}
use Rattle.std.specs.Option.{option_eq}
use Rattle.railway.specs.declared.block.Block.{Block}
use Rattle.railway.specs.declared.failing_sensors.FailingSensors.{FailingSensors}
use Rattle.railway.specs.declared.joint.TurnoutState.{TurnoutState}
use Rattle.railway.specs.Blocks.{no_blocks}
use Rattle.railway.specs.Network.{Network}

-- no sensor fails
abbrev pub none_failing : FailingSensors
none_failing = record { occupied = no_blocks; free = no_blocks }

-- the sensor of a block fails: it reports the block as occupied, or as free
abbrev pub with_sensor : FailingSensors → (block : ℕ) → (occupied : Bool) → FailingSensors
with_sensor failing block occupied = record {
  occupied = slice_set failing.occupied block occupied;
  free = slice_set failing.free block (not occupied);
}

-- the first block that has the sensor, if one has
abbrev pub block_with : (sensor : ℕ) → List Block → Option ℕ
block_with sensor blocks = position (λ block. option_eq nat_eq block.sensor (Some sensor)) blocks

-- one of the turnouts has this switch
abbrev pub has_switch : List TurnoutState → (switch : ℕ) → Bool
has_switch states switch = list_any (λ state. state.turnout.switch == switch) states

-- A turnout fails if it has the switch, and goes on failing; without a switch none fails.
abbrev pub failing_by : (switch : Option ℕ) → TurnoutState → TurnoutState
failing_by None state = record state { fails = false }
failing_by (Some switch) state =
    record state { fails = state.fails || state.turnout.switch == switch }

abbrev pub with_failing : (switch : Option ℕ) → Network → Network
with_failing switch network =
    record network { turnouts = map (failing_by switch) network.turnouts }
