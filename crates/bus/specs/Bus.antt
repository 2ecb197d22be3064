-- The effect of an event on a bus, and its outcome.
use Rattle.std.specs.Prelude.{ℕ, Bool, true, false, ◌&&◌, ◌||◌, ◌+◌, ◌-◌, nat_lt, nat_le, if◌then◌else◌, IsTrue, List, [], ◌∷◌, replicate, Option, Some, None, Result, Ok, Err, option_map, slice_set}
use Rattle.std.specs.List.{fold, list_all, slice_index_or}
use Rattle.dcc_packet.specs.Sent.{idle_bytes}
use Rattle.half_bits.specs.Halves.{duration_of}
use Rattle.ln_ops.specs.Reply.{reply_bytes}
use Rattle.ln_frame.specs.Message.{is_whole}
use Rattle.ln_ops.specs.Sensor.{is_interrogation}
use Rattle.programmer.specs.Requests.{is_for_programmer}
use Rattle.service_mode.specs.Spelling.{bytes_of, is_legal_packet}
use Rattle.loconet_tcp.specs.declared.request.Request.{Request}
use Rattle.loconet_tcp.specs.declared.request.Request.TheVariants.{Send, Invalid, Turns, States, Place, Device}
use Rattle.loconet_tcp.specs.declared.request.TurnsError.{TurnsError}
use Rattle.loconet_tcp.specs.declared.request.TurnsError.TheVariants.{NoNumber, RealTime}
use Rattle.loconet_tcp.specs.Reading.{request_of_byte, kept_after}
use Rattle.station_core.specs.Station.{after_message, answer_to_message, after_turn, packet_of_turn}
use Rattle.station_core.specs.Seen.{Seen, first_seen}
use Rattle.bus.specs.declared.event.Event.{Event}
use Rattle.bus.specs.declared.options.BusOptions.{BusOptions}
use Rattle.bus.specs.declared.event.Event.TheVariants.{Connects, Receives, Disconnects, Reports, Programs, Elapses, Turn}
use Rattle.bus.specs.declared.outcome.Outcome.{Outcome}
use Rattle.bus.specs.declared.outcome.Outcome.TheVariants.{Nothing, Connected, Disconnected, Rejected, Reported, Programmed, Sent, TurnBegan, TurnsRequested, StatesRequested, PlaceRequested, DeviceRequested}

-- the part of a bus that clients and time change: the station, the bytes kept of each client's
-- text, or None for no client, and the microseconds left of the current turn; and what there is
-- beside the station
pub record BusState : Type 0 where
  pub station : Seen
  pub clients : List (Option (List ℕ))
  pub remaining : ℕ
  pub options : BusOptions

-- the most clients: each has a line of the station
abbrev pub client_count : ℕ
client_count = 8

-- the shortest turn in microseconds; at most one turn begins in such a time
abbrev pub shortest : ℕ
shortest = 5796

-- an event of one of the eight clients, of a device beside the station, or of a short time
abbrev pub is_event : Event → Bool
is_event (Connects client) = nat_lt client 8
is_event (Receives client byte) = nat_lt client 8
is_event (Disconnects client) = nat_lt client 8
is_event (Reports message) = is_whole message
is_event (Programs packet change) = is_legal_packet packet
is_event (Elapses micros missed) = nat_le micros 5796
is_event (Turn missed) = true

abbrev pub AreEvents : List Event → Type 0
AreEvents events = IsTrue (list_all is_event events)

-- a new bus: no client is connected, and the track is as in a turn without power
abbrev pub first_bus : BusOptions → BusState
first_bus options = record {
  station = first_seen 8;
  clients = replicate 8 None;
  remaining = 5796;
  options = options;
}

-- the bytes kept of a client's text so far
abbrev pub client_of : BusState → ℕ → Option (List ℕ)
client_of bus client = slice_index_or bus.clients client None

-- the request that a byte completes; none if no client is connected
abbrev pub request_at : Option (List ℕ) → ℕ → Option Request
request_at None byte = None
request_at (Some kept) byte = request_of_byte kept byte

-- and the bytes kept of its text then
abbrev pub pending_text_at : Option (List ℕ) → ℕ → Option (List ℕ)
pending_text_at None byte = None
pending_text_at (Some kept) byte = Some (kept_after kept byte)

-- Devices beside the station answer a message: sensors an interrogation, a programmer what is for
-- slot 124.
abbrev pub is_for_devices : BusOptions → (message : List ℕ) → Bool
is_for_devices options message =
    (options.has_sensors && is_interrogation message) || (options.has_programmer && is_for_programmer message)

-- The message of a request that the station receives: each that is sent, but for those that devices
-- answer. The turns requested are events of their own.
abbrev pub for_station : BusState → Option Request → Option (List ℕ)
for_station bus None = None
for_station bus (Some (Send message)) = if is_for_devices bus.options message then None else Some message
for_station bus (Some (Invalid reason)) = None
for_station bus (Some (Turns count)) = None
for_station bus (Some (States things)) = None
for_station bus (Some (Place placement)) = None
for_station bus (Some (Device request)) = None

-- A message is carried out whole; a rejected request has no effect.
abbrev pub station_after : BusState → Option Request → Seen
station_after bus request = after_message bus.station (for_station bus request)

-- the station's reply, if there is one
abbrev pub reply_to : BusState → Option Request → Option (List ℕ)
reply_to bus request = option_map reply_bytes (answer_to_message bus.station (for_station bus request))

-- the number of turns that are run on request, or why none are
abbrev pub granted : (stepped : Bool) → Option ℕ → Result ℕ TurnsError
granted false count = Err RealTime
granted true None = Err NoNumber
granted true (Some count) = Ok count

abbrev pub outcome_of_request : BusState → (client : ℕ) → Option Request → Outcome
outcome_of_request bus client None = Nothing
outcome_of_request bus client (Some (Invalid reason)) = Rejected client reason
outcome_of_request bus client (Some (Send message)) = Sent client message (reply_to bus (Some (Send message)))
outcome_of_request bus client (Some (Turns count)) = TurnsRequested client (granted bus.options.is_stepped count)
outcome_of_request bus client (Some (States things)) = StatesRequested client things
outcome_of_request bus client (Some (Place placement)) = PlaceRequested client placement
outcome_of_request bus client (Some (Device request)) = DeviceRequested client request

-- the duration of a turn: that of its packet, and without power that of an idle packet
abbrev pub duration : Option (List ℕ) → ℕ
duration None = duration_of idle_bytes
duration (Some packet) = duration_of packet

-- the current turn ends within `micros` microseconds, and the next one begins where it ends
abbrev pub after_turn_boundary : BusState → (micros : ℕ) → BusState
after_turn_boundary bus micros = record bus { station = after_turn bus.station; remaining = bus.remaining + duration (packet_of_turn bus.station) - micros }

-- the effect of an event on a bus; one of a device beside the station has none
abbrev pub after_event : BusState → Event → BusState
after_event bus (Connects client) = record bus { clients = slice_set bus.clients client (Some []) }
after_event bus (Disconnects client) = record bus { clients = slice_set bus.clients client None }
after_event bus (Receives client byte) = record bus {
  station = station_after bus (request_at (client_of bus client) byte);
  clients = slice_set bus.clients client (pending_text_at (client_of bus client) byte);
}
after_event bus (Reports message) = bus
after_event bus (Programs packet change) = bus
after_event bus (Elapses micros missed) = if nat_le bus.remaining micros then after_turn_boundary bus micros else record bus { remaining = bus.remaining - micros }
after_event bus (Turn missed) = after_turn_boundary bus bus.remaining

-- its outcome
abbrev pub outcome_of : BusState → Event → Outcome
outcome_of bus (Connects client) = Connected client
outcome_of bus (Disconnects client) = Disconnected client
outcome_of bus (Receives client byte) = outcome_of_request bus client (request_at (client_of bus client) byte)
outcome_of bus (Reports message) = Reported message
outcome_of bus (Programs packet change) = Programmed (bytes_of packet) change
outcome_of bus (Elapses micros missed) = if nat_le bus.remaining micros then TurnBegan (packet_of_turn bus.station) else Nothing
outcome_of bus (Turn missed) = TurnBegan (packet_of_turn bus.station)

abbrev pub after_events : BusState → List Event → BusState
after_events = fold after_event

abbrev pub outcomes_of : BusState → List Event → List Outcome
outcomes_of bus [] = []
outcomes_of bus (event ∷ events) = outcome_of bus event ∷ outcomes_of (after_event bus event) events
