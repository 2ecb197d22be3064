-- The states of decoders, as their lines show them.
use Rattle.std.specs.Prelude.{ℕ, ◌==◌, ◌&&◌, Bool, true, false, not, if◌then◌else◌, List}
use Rattle.std.specs.Option.{option_eq}
use Rattle.dcc_packet.specs.declared.steps.Motion.{Motion}
use Rattle.dcc_packet.specs.declared.steps.Motion.TheVariants.{Stop, Emergency, Step}
use Rattle.decoder_node.specs.declared.node.NodeSpec.{NodeSpec}
use Rattle.decoder_node.specs.declared.running.Running.{Running}
use Rattle.layout_core.specs.declared.node.Node.{Node}
use Rattle.layout_core.specs.declared.decoder_state.DecoderState.{DecoderState}
use Rattle.layout_core.specs.Nodes.{outputs_of, running_of}
use Rattle.show_text.specs.Nodes.{node_text, number_of}

-- how it runs if it is a locomotive, its outputs if it is an accessory decoder
abbrev pub decoder_state_of : Node → DecoderState
decoder_state_of node = record { running = running_of node; outputs = outputs_of node }

-- its line, under its name
abbrev pub decoder_line : (name : List ℕ) → NodeSpec → DecoderState → List ℕ
decoder_line name spec decoder_state = node_text name spec decoder_state.running decoder_state.outputs

-- The two states are the same.

abbrev pub same_motion : Motion → Motion → Bool
same_motion Stop Stop = true
same_motion Emergency Emergency = true
same_motion (Step steps n) (Step others m) = number_of steps == number_of others && n == m
same_motion Stop Emergency = false
same_motion Stop (Step others m) = false
same_motion Emergency Stop = false
same_motion Emergency (Step others m) = false
same_motion (Step steps n) Stop = false
same_motion (Step steps n) Emergency = false

abbrev pub same_direction : (forward : Bool) → Bool → Bool
same_direction forward other = if forward then other else not other

abbrev pub same_running : Running → Running → Bool
same_running one other = same_motion one.motion other.motion && same_direction one.forward other.forward && one.functions == other.functions

abbrev pub same_decoder_state : DecoderState → DecoderState → Bool
same_decoder_state one other = option_eq same_running one.running other.running && option_eq ◌==◌ one.outputs other.outputs
