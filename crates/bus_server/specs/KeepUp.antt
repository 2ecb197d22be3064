-- A client that keeps up is not disconnected by the server.
use Rattle.std.specs.Prelude.{ℕ, ◌≡◌, ◌<◌, ◌==◌, Bool, false, IfSome, IsTrue, List, [], length}
use Rattle.std.specs.List.{list_any}
use Rattle.railway.specs.Railway.{is_railway}
use Rattle.bus_server.specs.ServerState.{ServerState, has_overflowed}
use Rattle.bus_server.specs.Rounds.{HasEmptyQueue, WritesInARow}
use Rattle.bus_server.specs.Running.{Round, RunsRounds, transport_log}
use Rattle.bus_server.specs.TransportEvents.{ServerClosed, TransportEvent, WriteBlocked}

-- a write to a client would block
abbrev pub is_blocked : (client : ℕ) → TransportEvent → Bool
is_blocked i (WriteBlocked client) = client == i
is_blocked i other = false

-- the server closes the connection of a client
abbrev pub is_closed : (client : ℕ) → TransportEvent → Bool
is_closed i (ServerClosed client) = client == i
is_closed i other = false

-- a client keeps up: no write to it would block, and no four pieces in a row are written to it
abbrev pub KeepsUp : (client : ℕ) → List TransportEvent → Type 0
KeepsUp client log = (list_any (is_blocked client) log ≡ false) × (WritesInARow client 4 log → ⊥)

-- nothing is queued for a client, and its queue has not overflowed
abbrev pub IsUpToDate : (client : ℕ) → ServerState → Type 0
IsUpToDate client state = HasEmptyQueue client state × (has_overflowed state client ≡ false)

-- nothing is still to report, and what holds of every railway holds of the one beside the bus
abbrev pub IsAtRest : ServerState → Type 0
IsAtRest state =
    (state.unreported ≡ []) × IfSome state.railway (λ railway. IsTrue (is_railway railway))

-- In a run of a server that begins when nothing is queued for a client, the server does not close its
-- connection if it keeps up, whatever the other clients do and however much devices report.
abbrev pub StaysConnected : Type 0
StaysConnected = (client most : ℕ) (rounds : List Round) (old new : ServerState)
    → IsAtRest old → client < 8 → length old.queues ≡ 8 → IsUpToDate client old
    → RunsRounds most rounds old new → KeepsUp client (transport_log rounds)
    → list_any (is_closed client) (transport_log rounds) ≡ false
