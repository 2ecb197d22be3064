-- The queues of the clients of a bus, and what an outcome adds to them.
use Rattle.std.specs.Prelude.{ℕ, ◌+◌, Bool, true, nat_lt, List, [], ◌∷◌, Option, Some, None, slice_set}
use Rattle.bus_server.specs.SendQueue.{enqueued}
use Rattle.bus.specs.declared.outcome.Outcome.{Outcome}
use Rattle.bus.specs.declared.outcome.Outcome.TheVariants.{Nothing, Connected, Disconnected, Rejected, Reported, Sent, Programmed, TurnBegan, TurnsRequested, StatesRequested, PlaceRequested, DeviceRequested, Placed, DeviceAnswered}
use Rattle.bus.specs.Outcome.{text_for}

-- the queue of each client; None where it is closed
abbrev pub SendQueues : Type 0
SendQueues = List (Option (List ℕ))

-- for each client from this index on its own text is enqueued
abbrev pub enqueued_from : (place : ℕ) → (text : ℕ → List ℕ) → SendQueues → SendQueues
enqueued_from place text [] = []
enqueued_from place text (send_queue ∷ queues) = enqueued (text place) send_queue ∷ enqueued_from (place + 1) text queues

abbrev pub enqueued_all : Outcome → SendQueues → SendQueues
enqueued_all outcome queues = enqueued_from 0 (λ client. text_for client outcome) queues

-- The queues after an outcome: a client that connects begins with an empty queue, and that of one that disconnects is closed.
abbrev pub queues_after : Outcome → SendQueues → SendQueues
queues_after Nothing queues = queues
queues_after (Programmed packet change) queues = queues
queues_after (TurnBegan packet) queues = queues
queues_after (Disconnected client) queues = slice_set queues client None
queues_after (Connected client) queues = enqueued_all (Connected client) (slice_set queues client (Some []))
queues_after (Rejected client reason) queues = enqueued_all (Rejected client reason) queues
queues_after (Sent client message reply) queues = enqueued_all (Sent client message reply) queues
queues_after (Reported message) queues = enqueued_all (Reported message) queues
queues_after (TurnsRequested client turns) queues = enqueued_all (TurnsRequested client turns) queues
queues_after (StatesRequested client things) queues = queues
queues_after (PlaceRequested client placement) queues = queues
queues_after (DeviceRequested client request) queues = queues
queues_after (Placed client answer) queues = enqueued_all (Placed client answer) queues
queues_after (DeviceAnswered client answer) queues = enqueued_all (DeviceAnswered client answer) queues

-- a client that it names is one of the eight
abbrev pub names_client : Outcome → Bool
names_client Nothing = true
names_client (Programmed packet change) = true
names_client (TurnBegan packet) = true
names_client (Disconnected client) = nat_lt client 8
names_client (Connected client) = nat_lt client 8
names_client (Rejected client reason) = nat_lt client 8
names_client (Sent client message reply) = nat_lt client 8
names_client (Reported message) = true
names_client (TurnsRequested client turns) = nat_lt client 8
names_client (StatesRequested client things) = nat_lt client 8
names_client (PlaceRequested client placement) = nat_lt client 8
names_client (DeviceRequested client request) = nat_lt client 8
names_client (Placed client answer) = nat_lt client 8
names_client (DeviceAnswered client answer) = nat_lt client 8
