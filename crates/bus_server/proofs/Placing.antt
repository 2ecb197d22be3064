-- An outcome names one of the clients, and the number of queues stays the same.
use Rattle.std.proofs.Common.{◌≡◌, ℕ, ◌+◌, ◌-◌, Bool, true, false, List, [], ◌∷◌, ◌++◌, length, drop, Option, Some, None, refl, ap, suc, ◌∙◌, if◌then◌else◌, nat_le, arith}
use Rattle.std.specs.Prelude.{slice_set}
use Rattle.std.specs.List.{list_all}
use Rattle.std.proofs.lemmas.Bool.{and_from}
use Rattle.std.proofs.lemmas.Bool.Decides.{nat_tests}
use Rattle.std.proofs.lemmas.List.{length-append, length-drop, length-set}
use Rattle.loconet_tcp.specs.declared.request.Request.{Request}
use Rattle.loconet_tcp.specs.declared.request.Request.TheVariants.{Send, Invalid, Turns, States, Place, Device}
use Rattle.station_core.specs.Station.{packet_of_turn}
use Rattle.bus.specs.declared.event.Event.{Event}
use Rattle.bus.specs.declared.event.Event.TheVariants.{Connects, Receives, Disconnects, Reports, Programs, Elapses, Turn}
use Rattle.bus.specs.declared.outcome.Outcome.{Outcome}
use Rattle.bus.specs.declared.outcome.Outcome.TheVariants.{Nothing, Connected, Disconnected, Rejected, Reported, Sent, Programmed, TurnBegan, TurnsRequested, StatesRequested, PlaceRequested, DeviceRequested, Placed, DeviceAnswered}
use Rattle.bus.specs.Bus.{BusState, request_at, client_of, is_event, outcome_of_request, outcome_of}
use Rattle.bus.specs.Outcome.{text_for}
use Rattle.railway.specs.Railway.{RailwayState}
use Rattle.programming_track.specs.Bench.{BenchState}
use Rattle.bus_server.specs.Placement.{answered}
use Rattle.bus_server.specs.Programming.{programmed}
use Rattle.bus_server.specs.SendQueue.{is_within_capacity, enqueued, queued}
use Rattle.bus_server.specs.SendQueues.{SendQueues, names_client, enqueued_all, enqueued_from, queues_after}
use Rattle.bus_server.proofs.Keeping.{room_set}

asked_placed : (bus : BusState) (client : ℕ) (request : Option Request) → is_event (Connects client) ≡ true → names_client (outcome_of_request bus client request) ≡ true
asked_placed bus client None below = refl
asked_placed bus client (Some (Invalid reason)) below = below
asked_placed bus client (Some (Send message)) below = below
asked_placed bus client (Some (Turns count)) below = below
asked_placed bus client (Some (States things)) below = below
asked_placed bus client (Some (Place placement)) below = below
asked_placed bus client (Some (Device request)) below = below

passing_placed : (packet : Option (List ℕ)) (ends : Bool) → names_client (if ends then TurnBegan packet else Nothing) ≡ true
passing_placed packet true = refl
passing_placed packet false = refl

pub placed_by : (bus : BusState) (event : Event) → is_event event ≡ true → names_client (outcome_of bus event) ≡ true
placed_by bus (Connects client) legal = legal
placed_by bus (Disconnects client) legal = legal
placed_by bus (Receives client byte) legal = asked_placed bus client (request_at (client_of bus client) byte) legal
placed_by bus (Elapses micros missed) legal = passing_placed (packet_of_turn bus.station) (nat_le bus.remaining micros)
placed_by bus (Reports message) legal = refl
placed_by bus (Programs packet change) legal = refl
placed_by bus (Turn missed) legal = refl

-- the answer names the same client

pub names-answered : (names : List (List ℕ)) (railway : Option RailwayState) (outcome : Outcome) → names_client (answered names railway outcome) ≡ names_client outcome
names-answered names railway Nothing = refl
names-answered names railway (Programmed packet change) = refl
names-answered names railway (TurnBegan packet) = refl
names-answered names railway (Disconnected client) = refl
names-answered names railway (Connected client) = refl
names-answered names railway (Rejected client reason) = refl
names-answered names railway (Sent client message reply) = refl
names-answered names railway (Reported message) = refl
names-answered names railway (TurnsRequested client turns) = refl
names-answered names railway (StatesRequested client things) = refl
names-answered names railway (PlaceRequested client placement) = refl
names-answered names railway (DeviceRequested client request) = refl
names-answered names railway (Placed client answer) = refl
names-answered names railway (DeviceAnswered client answer) = refl

-- and so does the reply of the programmer

pub names-programmed : (programming : Option BenchState) (railway : Option RailwayState) (outcome : Outcome) → names_client (programmed programming railway outcome) ≡ names_client outcome
names-programmed programming railway Nothing = refl
names-programmed programming railway (Programmed packet change) = refl
names-programmed programming railway (TurnBegan packet) = refl
names-programmed programming railway (Disconnected client) = refl
names-programmed programming railway (Connected client) = refl
names-programmed programming railway (Rejected client reason) = refl
names-programmed programming railway (Sent client message reply) = refl
names-programmed programming railway (Reported message) = refl
names-programmed programming railway (TurnsRequested client turns) = refl
names-programmed programming railway (StatesRequested client things) = refl
names-programmed programming railway (PlaceRequested client placement) = refl
names-programmed programming railway (DeviceRequested client request) = refl
names-programmed programming railway (Placed client answer) = refl
names-programmed programming railway (DeviceAnswered client answer) = refl

pub length-enqueued : (place : ℕ) (text : ℕ → List ℕ) (queues : SendQueues) → length (enqueued_from place text queues) ≡ length queues
length-enqueued place text [] = refl
length-enqueued place text (send_queue ∷ queues) = ap suc (length-enqueued (place + 1) text queues)

length-outcome : (outcome : Outcome) (queues : SendQueues) → length (enqueued_all outcome queues) ≡ length queues
length-outcome outcome queues = length-enqueued 0 (λ client. text_for client outcome) queues

pub length-after : (outcome : Outcome) (queues : SendQueues) → length (queues_after outcome queues) ≡ length queues
length-after Nothing queues = refl
length-after (Programmed packet change) queues = refl
length-after (TurnBegan packet) queues = refl
length-after (Disconnected client) queues = length-set queues client None
length-after (Connected client) queues = length-outcome (Connected client) (slice_set queues client (Some [])) ∙ length-set queues client (Some [])
length-after (Rejected client reason) queues = length-outcome (Rejected client reason) queues
length-after (Sent client message reply) queues = length-outcome (Sent client message reply) queues
length-after (Reported message) queues = length-outcome (Reported message) queues
length-after (TurnsRequested client turns) queues = length-outcome (TurnsRequested client turns) queues
length-after (StatesRequested client things) queues = refl
length-after (PlaceRequested client placement) queues = refl
length-after (DeviceRequested client request) queues = refl
length-after (Placed client answer) queues = length-outcome (Placed client answer) queues
length-after (DeviceAnswered client answer) queues = length-outcome (DeviceAnswered client answer) queues

-- What waits has room.

told_if : (bytes text : List ℕ) (fits : Bool) → nat_le (length bytes + length text) 65536 ≡ fits → is_within_capacity (if fits then Some (bytes ++ text) else None) ≡ true
told_if bytes text true h = ap (λ (n : ℕ). nat_le n 65536) (length-append bytes text) ∙ h
told_if bytes text false h = refl

within_capacity-enqueued : (text : List ℕ) (send_queue : Option (List ℕ)) → is_within_capacity (enqueued text send_queue) ≡ true
within_capacity-enqueued text None = refl
within_capacity-enqueued text (Some bytes) = told_if bytes text (nat_le (length bytes + length text) 65536) refl

pub within_capacity-all : (place : ℕ) (text : ℕ → List ℕ) (queues : SendQueues) → list_all is_within_capacity (enqueued_from place text queues) ≡ true
within_capacity-all place text [] = refl
within_capacity-all place text (send_queue ∷ queues) =
    and_from (is_within_capacity (enqueued (text place) send_queue)) (list_all is_within_capacity (enqueued_from (place + 1) text queues)) (within_capacity-enqueued (text place) send_queue) (within_capacity-all (place + 1) text queues)

within_capacity-outcome : (outcome : Outcome) (queues : SendQueues) → list_all is_within_capacity (enqueued_all outcome queues) ≡ true
within_capacity-outcome outcome queues = within_capacity-all 0 (λ client. text_for client outcome) queues

pub within_capacity-after : (outcome : Outcome) (queues : SendQueues) → list_all is_within_capacity queues ≡ true → list_all is_within_capacity (queues_after outcome queues) ≡ true
within_capacity-after Nothing queues within_capacity = within_capacity
within_capacity-after (Programmed packet change) queues within_capacity = within_capacity
within_capacity-after (TurnBegan packet) queues within_capacity = within_capacity
within_capacity-after (Disconnected client) queues within_capacity = room_set queues client None within_capacity refl
within_capacity-after (Connected client) queues within_capacity = within_capacity-outcome (Connected client) (slice_set queues client (Some []))
within_capacity-after (Rejected client reason) queues within_capacity = within_capacity-outcome (Rejected client reason) queues
within_capacity-after (Sent client message reply) queues within_capacity = within_capacity-outcome (Sent client message reply) queues
within_capacity-after (Reported message) queues within_capacity = within_capacity-outcome (Reported message) queues
within_capacity-after (TurnsRequested client turns) queues within_capacity = within_capacity-outcome (TurnsRequested client turns) queues
within_capacity-after (StatesRequested client things) queues within_capacity = within_capacity
within_capacity-after (PlaceRequested client placement) queues within_capacity = within_capacity
within_capacity-after (DeviceRequested client request) queues within_capacity = within_capacity
within_capacity-after (Placed client answer) queues within_capacity = within_capacity-outcome (Placed client answer) queues
within_capacity-after (DeviceAnswered client answer) queues within_capacity = within_capacity-outcome (DeviceAnswered client answer) queues

pub within_capacity-dropped : (count : ℕ) (send_queue : Option (List ℕ)) → is_within_capacity send_queue ≡ true → is_within_capacity (Some (drop count (queued send_queue))) ≡ true
within_capacity-dropped count send_queue within_capacity = let less : length (drop count (queued send_queue)) ≡ length (queued send_queue) - count = length-drop count (queued send_queue) in grind (arith, nat_tests, less, within_capacity)
