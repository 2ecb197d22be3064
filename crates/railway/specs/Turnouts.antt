-- How turnouts move and lie.
use Rattle.std.specs.Prelude.{ℕ, ◌+◌, ◌-◌, ◌*◌, ◌%◌, ◌==◌, ◌&&◌, ◌||◌, Bool, false, min, nat_le, not, if◌then◌else◌, List, Option, Some, None, slice_get, map}
use Rattle.std.specs.Int.{bit_at}
use Rattle.std.specs.List.{list_all, list_any}
use Rattle.std.specs.Option.{option_and_then}
use Rattle.decoder_node.specs.declared.node.NodeSpec.{NodeSpec}
use Rattle.layout_core.specs.declared.node.Node.{Node}
use Rattle.layout_core.specs.Nodes.{outputs_of}
use Rattle.refresh_ring.specs.declared.pick.Power.{Power}
use Rattle.refresh_ring.specs.declared.pick.Power.TheVariants.{Off, Running, Paused}
use Rattle.railway.specs.declared.block.BlockEnd.{BlockEnd}
use Rattle.railway.specs.declared.joint.Turnout.{Turnout}
use Rattle.railway.specs.declared.joint.TurnoutState.{TurnoutState}
use Rattle.railway.specs.declared.plan.Plan.{Plan}
use Rattle.railway.specs.declared.train.Place.{Place}
use Rattle.railway.specs.declared.train.TrainState.{TrainState}
use Rattle.railway.specs.Decoders.{decoder_of}
use Rattle.railway.specs.Network.{Network, first_at, is_end_of, is_moving, off_rails}
use Rattle.railway.specs.Places.{is_derailed, span}

abbrev pub same_bool : Bool → Bool → Bool
same_bool one two = if one then two else not two

-- the outputs of the decoder of this index, if it is an accessory decoder
abbrev pub outputs_in : List Node → (decoder : ℕ) → Option ℕ
outputs_in nodes decoder = option_and_then outputs_of (slice_get nodes decoder)

abbrev pub is_on : (outputs output : ℕ) → Bool
is_on outputs output = bit_at outputs output == 1

-- an output is on that was off
abbrev pub came_on : (was is output : ℕ) → Bool
came_on was is output = is_on is output && not (is_on was output)

-- A pair of outputs has the even one for thrown and the odd one for closed: outputs are pulsed, and a
-- turnout moves to the side of the one that came on last. `was` are the outputs that were seen last.
abbrev pub side_of : (was : ℕ) → Option ℕ → (pair : ℕ) → (side : Bool) → Bool
side_of was None pair side = side
side_of was (Some is) pair side =
    if same_bool (came_on was is (2 * (pair % 4) + 1)) (came_on was is (2 * (pair % 4))) then side else
    came_on was is (2 * (pair % 4))

-- the outputs that are seen last then
abbrev pub seen_of : (was : ℕ) → Option ℕ → ℕ
seen_of was None = was
seen_of was (Some is) = is

-- the pair of a switch, which counts from 1, among the four of its decoder
abbrev pub pair_of : (switch : ℕ) → ℕ
pair_of switch = (switch - 1) % 4

-- the side that a turnout is asked for by its decoder; one that fails follows no output
abbrev pub side_in : List Node → TurnoutState → Bool
side_in nodes state =
    if state.fails then state.is_thrown else
    side_of state.outputs (outputs_in nodes state.decoder) (pair_of state.turnout.switch)
    state.is_thrown

-- The microseconds until a turnout lies that is asked for a side: all of its time, if it lies at the
-- other one; as long as it has moved, if it moves there.
abbrev pub left_to : (thrown : Bool) → TurnoutState → ℕ
left_to thrown state =
    if same_bool thrown state.is_thrown then state.left else state.turnout.time * 1000 - state.left

-- a turnout that is asked for a side
abbrev pub asked : (thrown : Bool) → TurnoutState → TurnoutState
asked thrown state = record state { is_thrown = thrown; left = left_to thrown state }

-- a turnout as its decoder moves it
abbrev pub observed : List Node → TurnoutState → TurnoutState
observed nodes state = record (asked (side_in nodes state) state) {
  outputs = seen_of state.outputs (outputs_in nodes state.decoder);
}

-- the network as its turnouts lie
abbrev pub laid : List Node → Network → Network
laid nodes network = record network { turnouts = map (observed nodes) network.turnouts }

-- the outputs of a turnout's decoder are not those that were seen last
abbrev pub is_changed : List Node → TurnoutState → Bool
is_changed nodes state =
    not (seen_of state.outputs (outputs_in nodes state.decoder) == state.outputs)

-- its decoder moves a turnout to its other side
abbrev pub is_moved : List Node → TurnoutState → Bool
is_moved nodes state = not (same_bool (observed nodes state).is_thrown state.is_thrown)

-- the end is one of a turnout that is moved
abbrev pub is_moved_end : List Node → List TurnoutState → BlockEnd → Bool
is_moved_end nodes states end = list_any (λ state. is_end_of end state && is_moved nodes state) states

-- the first place under a train, from its rear on, at which it stands over a turnout that is moved
abbrev pub thrown_under : List Node → Network → TrainState → Option Place
thrown_under nodes network train =
    first_at (is_moved_end nodes network.turnouts) network train.rear (span train)

abbrev pub derailed_at : Network → TrainState → Option Place → TrainState
derailed_at network train None = train
derailed_at network train (Some place) = off_rails network place train

-- A train is derailed, where it is, by a turnout that is thrown under a part of it.
abbrev pub checked : List Node → Network → TrainState → TrainState
checked nodes network train =
    if is_derailed train then train else
    derailed_at network train (thrown_under nodes network train)

-- a turnout moves on for so many microseconds
abbrev pub moved_on : (micros : ℕ) → TurnoutState → TurnoutState
moved_on micros state = record state { left = state.left - micros }

-- a turnout after so many microseconds, which it moves by track power
abbrev pub moved_on_under : Power → (micros : ℕ) → TurnoutState → TurnoutState
moved_on_under Off micros state = state
moved_on_under Running micros state = moved_on micros state
moved_on_under Paused micros state = moved_on micros state

-- each moves on
abbrev pub advanced : (micros : ℕ) → Network → Network
advanced micros network = record network { turnouts = map (moved_on micros) network.turnouts }

abbrev pub is_calm_for : (micros : ℕ) → TurnoutState → Bool
is_calm_for micros state = state.left == 0 || nat_le micros state.left

-- so much of a time, or less if the turnout moves and comes to lie before
abbrev pub calmer : (micros : ℕ) → TurnoutState → ℕ
calmer micros state = if is_moving state then min micros state.left else micros

-- no turnout comes to lie before the end of a time
abbrev pub is_calm : (micros : ℕ) → Network → Bool
is_calm micros network = list_all (is_calm_for micros) network.turnouts

abbrev pub index_or_zero : Option ℕ → ℕ
index_or_zero None = 0
index_or_zero (Some i) = i

-- a turnout of a plan: it is closed until its decoder moves it
abbrev pub state_of_turnout : List NodeSpec → Turnout → TurnoutState
state_of_turnout specs turnout = record {
  turnout = turnout;
  decoder = index_or_zero (decoder_of specs turnout.switch);
  is_thrown = false;
  left = 0;
  outputs = 0;
  fails = false;
}

-- the network of a plan, with these decoders
abbrev pub network_of : List NodeSpec → Plan → Network
network_of specs plan = record {
  blocks = plan.blocks.items;
  joints = plan.joints.items;
  turnouts = map (state_of_turnout specs) plan.turnouts.items;
}
