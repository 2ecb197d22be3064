-- The layout's events for the events of a bus.
use Rattle.std.specs.Prelude.{ℕ, nat_le, if◌then◌else◌, List, [], ◌∷◌, ◌++◌, map, Option, Some, None}
use Rattle.layout_core.specs.declared.event.Event.{Event as LayoutEvent}
use Rattle.layout_core.specs.declared.event.Event.TheVariants as layout
use Rattle.bus.specs.declared.event.Event.{Event}
use Rattle.bus.specs.declared.event.Event.TheVariants.{Connects, Receives, Disconnects, Reports, Programs, Elapses, Turn}
use Rattle.bus.specs.Bus.{BusState, after_event, for_station, request_at, client_of}

-- bytes received on a line
abbrev pub bytes_on : (line : ℕ) → List ℕ → List LayoutEvent
bytes_on line bytes = map (λ byte. layout.Byte line byte) bytes

-- a turn that these decoders miss
abbrev pub turn_of : (missed : ℕ) → List LayoutEvent
turn_of missed = layout.Turn missed ∷ []

-- a message for the station is put whole on the line of its client
abbrev pub message_events : (client : ℕ) → Option (List ℕ) → List LayoutEvent
message_events client None = []
message_events client (Some message) = bytes_on client message

-- the layout's events for an event of its bus
abbrev pub layout_event : BusState → Event → List LayoutEvent
layout_event bus (Connects client) = []
layout_event bus (Disconnects client) = []
layout_event bus (Receives client byte) = message_events client (for_station bus (request_at (client_of bus client) byte))
layout_event bus (Reports message) = []
layout_event bus (Programs packet change) = []
layout_event bus (Elapses micros missed) = if nat_le bus.remaining micros then turn_of missed else []
layout_event bus (Turn missed) = turn_of missed

abbrev pub layout_events : BusState → List Event → List LayoutEvent
layout_events bus [] = []
layout_events bus (event ∷ events) = layout_event bus event ++ layout_events (after_event bus event) events
