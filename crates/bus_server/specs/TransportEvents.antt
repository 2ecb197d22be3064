-- The events of a transport.
use Rattle.std.specs.Prelude.{ℕ, ◌<◌, ◌≤◌, Bool, true, false, List, [], ◌∷◌, map, Option, take}
use Rattle.bus_server.specs.declared.transport.IoOutcome.{IoOutcome}
use Rattle.bus_server.specs.declared.transport.IoOutcome.TheVariants.{Bytes, WouldBlock, Closed}

-- one event
pub data TransportEvent : Type 0 where
  -- the server waits for input, at most this many microseconds, or without end
  Polled : (longest : Option ℕ) → TransportEvent
  -- a pending client is accepted at an index
  Accepted : (client : ℕ) → TransportEvent
  -- a byte is read from a client
  Received : (client byte : ℕ) → TransportEvent
  -- a client has closed its connection
  PeerClosed : (client : ℕ) → TransportEvent
  -- bytes are written to a client
  Written : (client : ℕ) → (bytes : List ℕ) → TransportEvent
  -- the server closes the connection of a client
  ServerClosed : (client : ℕ) → TransportEvent
  -- a read of a client would block
  ReadBlocked : (client : ℕ) → TransportEvent
  -- a write to a client would block
  WriteBlocked : (client : ℕ) → TransportEvent
  -- no client is pending
  NonePending : TransportEvent
  -- a pending client is sent the text that the server is full, and its connection is closed
  Refused : TransportEvent

-- what a call of accept logs
abbrev pub accept_events : (client : ℕ) → (accepted : Bool) → List TransportEvent
accept_events client true = Accepted client ∷ []
accept_events client false = NonePending ∷ []

-- what a call of reject logs
abbrev pub reject_events : (refused : Bool) → List TransportEvent
reject_events true = Refused ∷ []
reject_events false = NonePending ∷ []

-- what a read logs
abbrev pub read_events : (client : ℕ) → IoOutcome → (buf : List ℕ) → List TransportEvent
read_events client (Bytes count) buf = map (λ byte. Received client byte) (take count buf)
read_events client WouldBlock buf = ReadBlocked client ∷ []
read_events client Closed buf = PeerClosed client ∷ []

-- what a write logs
abbrev pub write_events : (client : ℕ) → IoOutcome → (bytes : List ℕ) → List TransportEvent
write_events client (Bytes count) bytes = Written client (take count bytes) ∷ []
write_events client WouldBlock bytes = WriteBlocked client ∷ []
write_events client Closed bytes = PeerClosed client ∷ []

-- at least one byte, and no more than fit or were given
abbrev pub IsWithin : IoOutcome → ℕ → Type 0
IsWithin (Bytes count) most = (0 < count) × (count ≤ most)
IsWithin WouldBlock most = Unit {0}
IsWithin Closed most = Unit {0}
