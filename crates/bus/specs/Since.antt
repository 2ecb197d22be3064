-- The text of each client since it connected, from the outcomes.
use Rattle.std.specs.Prelude.{ℕ, Bool, true, false, ◌&&◌, ◌||◌, ◌==◌, if◌then◌else◌, not, List, [], ◌∷◌}
use Rattle.std.specs.List.{flat_map, list_all}
use Rattle.bus.specs.declared.outcome.Outcome.{Outcome}
use Rattle.bus.specs.declared.outcome.Outcome.TheVariants.{Connected, Disconnected, Rejected, Sent, TurnsRequested, StatesRequested, PlaceRequested, DeviceRequested, Placed, DeviceAnswered}
use Rattle.bus.specs.Outcome.{messages_in, text_for}

abbrev pub is_connecting : (client : ℕ) → Outcome → Bool
is_connecting i (Connected client) = client == i
is_connecting i other = false

abbrev pub is_disconnecting : (client : ℕ) → Outcome → Bool
is_disconnecting i (Disconnected client) = client == i
is_disconnecting i other = false

-- the client of this index connects or disconnects
abbrev pub changes_connection : (client : ℕ) → Outcome → Bool
changes_connection i outcome = is_connecting i outcome || is_disconnecting i outcome

abbrev pub stays_connected : (client : ℕ) → List Outcome → Bool
stays_connected i outcomes = list_all (λ outcome. not (changes_connection i outcome)) outcomes

-- the last connecting of a client and all outcomes after it, if it has not disconnected since; else
-- nothing
abbrev pub since_connected : (client : ℕ) → List Outcome → List Outcome
since_connected i [] = []
since_connected i (outcome ∷ rest) = if is_connecting i outcome && stays_connected i rest then outcome ∷ rest else since_connected i rest

abbrev pub is_nonempty : List Outcome → Bool
is_nonempty [] = false
is_nonempty (outcome ∷ rest) = true

-- a client connected at this index, and has not disconnected since
abbrev pub has_connected : (client : ℕ) → List Outcome → Bool
has_connected i outcomes = is_nonempty (since_connected i outcomes)

-- the text of the client at an index since it connected; nothing if none is connected
abbrev pub text_since : (client : ℕ) → List Outcome → List ℕ
text_since i outcomes = flat_map (text_for i) (since_connected i outcomes)

-- the client requests to send, or turns, or how the decoders stand, or to put a train, or something of the
-- devices beside the station
abbrev pub makes_request : (client : ℕ) → Outcome → Bool
makes_request i (Rejected client reason) = client == i
makes_request i (Sent client message reply) = client == i
makes_request i (TurnsRequested client turns) = client == i
makes_request i (StatesRequested client things) = client == i
makes_request i (PlaceRequested client placement) = client == i
makes_request i (DeviceRequested client request) = client == i
makes_request i (Placed client answer) = client == i
makes_request i (DeviceAnswered client answer) = client == i
makes_request i other = false

-- it makes no request
abbrev pub requests_nothing : (client : ℕ) → List Outcome → Bool
requests_nothing i outcomes = list_all (λ outcome. not (makes_request i outcome)) outcomes

-- the messages on the bus, in order
abbrev pub traffic : List Outcome → List (List ℕ)
traffic outcomes = flat_map messages_in outcomes
