-- The effect and the output of the replay of a script.
use Rattle.std.specs.Prelude.{ℕ, ◌≡◌, ◌+◌, List, [], ◌∷◌, ◌++◌, Some, None, map, replicate}
use Rattle.console.specs.Printed.{lines_text}
use Rattle.decoder_node.specs.Obey.{runs}
use Rattle.decoder_node.specs.Switched.{switches}
use Rattle.layout_core.specs.declared.event.Event.{Event}
use Rattle.layout_core.specs.declared.event.Event.TheVariants as event
use Rattle.layout_core.specs.declared.node.Node.{Node}
use Rattle.layout_core.specs.declared.node.Node.TheVariants.{Loco, Accessory}
use Rattle.layout_core.specs.declared.decoder_state.DecoderState.{DecoderState}
use Rattle.layout_core.specs.declared.world.World.{World}
use Rattle.layout_core.specs.Events.{calls_in}
use Rattle.layout_core.specs.Heard.{heard}
use Rattle.layout_core.specs.Played.{after_events, answers_to}
use Rattle.layout_core.specs.Served.{traced_from}
use Rattle.layout_core.specs.DecoderStates.{decoder_state_of}
use Rattle.layout_core.specs.World.{HaveHeard}
use Rattle.roster.specs.Entry.{Entry}
use Rattle.show_text.specs.declared.command.Command.{Command}
use Rattle.show_text.specs.declared.command.Command.TheVariants.{Byte, Turns, Show}
use Rattle.station_core.specs.Moments.{turns_in}
use Rattle.station_core.specs.Seen.{Seen}
use Rattle.station.specs.Printed.{decoder_lines}

-- The events of a command, and of commands in order. `show` has none.

abbrev pub events_of : Command → List Event
events_of (Byte line byte) = event.Byte line byte ∷ []
events_of (Turns count missed) = replicate count (event.Turn missed)
events_of Show = []

abbrev pub events_in : List Command → List Event
events_in [] = []
events_in (command ∷ commands) = events_of command ++ events_in commands

-- how many turns of the track are among events
abbrev pub turns_among : List Event → ℕ
turns_among events = turns_in (calls_in events)

-- the layout did these events: its station answered them, and each decoder heard what was sent and
-- what it did not miss
pub record HasDone (events : List Event) (old new : World) : Type 0 where
  pub station : new.station ≡ after_events old.station events
  pub nodes : HaveHeard old.station events old.nodes new.nodes

-- the state of a decoder that obeyed these packets, and nothing else
abbrev pub decoder_state_after : List (List ℕ) → Node → DecoderState
decoder_state_after packets (Loco loco) = record { running = Some (runs loco.settings loco.state packets); outputs = None }
decoder_state_after packets (Accessory accessory) = record { running = None; outputs = Some (switches accessory.settings accessory.state packets) }

-- the decoders from decoder i on, each after the packets that it heard of these events
abbrev pub decoder_states_from : ℕ → Seen → List Event → List Node → List DecoderState
decoder_states_from i seen events [] = []
decoder_states_from i seen events (node ∷ nodes) = decoder_state_after (heard i seen events) node ∷ decoder_states_from (i + 1) seen events nodes

abbrev pub decoder_states_after : World → List Event → List DecoderState
decoder_states_after start events = decoder_states_from 0 start.station events start.nodes

-- What the text of a command depends on: the station, the state of each decoder, and the number of
-- the next turn.
pub record Scene : Type 0 where
  pub station : Seen
  pub decoder_states : List DecoderState
  pub turn : ℕ

-- a layout as it is
abbrev pub scene_of : World → ℕ → Scene
scene_of world turn = record { station = world.station; decoder_states = map decoder_state_of world.nodes; turn = turn }

-- After these events, from the start of a script, whose turns are numbered from 1.
abbrev pub scene_after : World → List Event → Scene
scene_after start done = record { station = after_events start.station done; decoder_states = decoder_states_after start done; turn = turns_among done + 1 }

-- The output of a command: the reply to a byte, if it has one, a line for each turn, and for `show`
-- a line for each decoder.
abbrev pub command_text : List Entry → Scene → Command → List ℕ
command_text entries scene (Byte line byte) = traced_from line scene.turn (answers_to scene.station (events_of (Byte line byte)))
command_text entries scene (Turns count missed) = traced_from 0 scene.turn (answers_to scene.station (events_of (Turns count missed)))
command_text entries scene Show = lines_text (decoder_lines entries scene.decoder_states)

-- the output of commands, one after another, after these events
abbrev pub commands_text : World → List Entry → (done : List Event) → List Command → List ℕ
commands_text start entries done [] = []
commands_text start entries done (command ∷ commands) =
    command_text entries (scene_after start done) command ++ commands_text start entries (done ++ events_of command) commands
