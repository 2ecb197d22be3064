-- The lines that each client receives of an event, in LocoNet over TCP. The order is this project's
-- own: the message to all clients, SENT OK to its sender, the reply to all.
use Rattle.std.specs.Prelude.{ℕ, ◌==◌, if◌then◌else◌, List, [], ◌∷◌, ◌++◌, Option, Some, None}
use Rattle.std.specs.Option.{option_to_list}
use Rattle.loconet_tcp.specs.ClientLines.{device_text, place_text, receive_text, sent_error_text, sent_ok_text, turns_text, version_text}
use Rattle.bus.specs.declared.outcome.Outcome.{Outcome}
use Rattle.bus.specs.declared.outcome.Outcome.TheVariants.{Connected, Placed, DeviceAnswered, Rejected, Reported, Sent, TurnsRequested}

-- a reply was seen on LocoNet, if there is one
abbrev pub reply_text : Option (List ℕ) → List ℕ
reply_text None = []
reply_text (Some reply) = receive_text reply

-- The lines that one client receives of an event. All clients receive the message, its sender too;
-- then the sender receives SENT OK; then all receive the reply. All receive what a device reports, and
-- none the packets of a programming track.
-- That no turns follow, a train was placed, or what became of a request of the devices, is told to the
-- client alone that requested it.
abbrev pub text_for : (client : ℕ) → Outcome → List ℕ
text_for i (Connected client) = if client == i then version_text else []
text_for i (Rejected client reason) = if client == i then sent_error_text reason else []
text_for i (Sent client message reply) = receive_text message ++ (if client == i then sent_ok_text else []) ++ reply_text reply
text_for i (Reported message) = receive_text message
text_for i (TurnsRequested client turns) = if client == i then turns_text turns else []
text_for i (Placed client answer) = if client == i then place_text answer else []
text_for i (DeviceAnswered client answer) = if client == i then device_text answer else []
text_for i other = []

-- the messages seen on LocoNet: each message sent, its reply, and each report of a device
abbrev pub messages_in : Outcome → List (List ℕ)
messages_in (Sent client message reply) = message ∷ option_to_list reply
messages_in (Reported message) = message ∷ []
messages_in other = []
