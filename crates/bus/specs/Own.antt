-- The messages put on each line, and the requests of its client.
use Rattle.std.specs.Prelude.{ℕ, Bool, true, ◌==◌, if◌then◌else◌, not, List, [], ◌∷◌, ◌++◌, Option, Some, None}
use Rattle.std.specs.List.{flat_map, list_all}
use Rattle.std.specs.Option.{option_to_list}
use Rattle.loconet_tcp.specs.declared.request.Request.{Request}
use Rattle.loconet_tcp.specs.declared.request.Request.TheVariants.{Send, Invalid, Turns, States, Place, Device}
use Rattle.bus.specs.declared.event.Event.{Event}
use Rattle.bus.specs.declared.event.Event.TheVariants.{Connects, Receives, Disconnects, Reports, Programs, Elapses, Turn}
use Rattle.bus.specs.declared.outcome.Outcome.{Outcome}
use Rattle.bus.specs.declared.outcome.Outcome.TheVariants.{Sent}
use Rattle.bus.specs.Bus.{request_at, pending_text_at}

-- the message that was put on line i
abbrev pub message_on : (line : ℕ) → Outcome → List (List ℕ)
message_on i (Sent client message reply) = if client == i then message ∷ [] else []
message_on i other = []

abbrev pub messages_on : (line : ℕ) → List Outcome → List (List ℕ)
messages_on i outcomes = flat_map (message_on i) outcomes

-- the requests of client i, from its own events only: of its text so far these bytes are kept, or
-- it is not connected
abbrev pub own_requests : (client : ℕ) → (kept : Option (List ℕ)) → List Event → List Request
own_requests i kept [] = []
own_requests i kept (Connects client ∷ events) = own_requests i (if client == i then Some [] else kept) events
own_requests i kept (Disconnects client ∷ events) = own_requests i (if client == i then None else kept) events
own_requests i kept (Receives client byte ∷ events) =
    if client == i then option_to_list (request_at kept byte) ++ own_requests i (pending_text_at kept byte) events else own_requests i kept events
own_requests i kept (Reports message ∷ events) = own_requests i kept events
own_requests i kept (Programs packet change ∷ events) = own_requests i kept events
own_requests i kept (Elapses micros missed ∷ events) = own_requests i kept events
own_requests i kept (Turn missed ∷ events) = own_requests i kept events

-- the messages requested to be sent
abbrev pub messages_to_send : List Request → List (List ℕ)
messages_to_send [] = []
messages_to_send (Send message ∷ requests) = message ∷ messages_to_send requests
messages_to_send (Invalid reason ∷ requests) = messages_to_send requests
messages_to_send (Turns count ∷ requests) = messages_to_send requests
messages_to_send (States things ∷ requests) = messages_to_send requests
messages_to_send (Place placement ∷ requests) = messages_to_send requests
messages_to_send (Device request ∷ requests) = messages_to_send requests

-- the client neither connects nor disconnects
abbrev pub is_unaffected : (client : ℕ) → Event → Bool
is_unaffected i (Connects client) = not (client == i)
is_unaffected i (Disconnects client) = not (client == i)
is_unaffected i other = true

abbrev pub stays_connected_in : (client : ℕ) → List Event → Bool
stays_connected_in i events = list_all (is_unaffected i) events

-- the bytes received from client i
abbrev pub bytes_from : (client : ℕ) → Event → List ℕ
bytes_from i (Receives client byte) = if client == i then byte ∷ [] else []
bytes_from i other = []

abbrev pub text_from : (client : ℕ) → List Event → List ℕ
text_from i events = flat_map (bytes_from i) events
