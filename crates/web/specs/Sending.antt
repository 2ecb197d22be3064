-- Sending text messages to a page, one after the other (RFC 6455, section 5.6).
use Rattle.std.specs.Prelude.{◌≡◌, ℕ, List, [], ◌∷◌, Option}
use Rattle.tungstenite.specs.Socket.{Flushed, Socket, Writes}
use Rattle.websocket.specs.Connection.{write_step}
use Rattle.websocket.specs.Content.{ping, text}

module _ {S : Type 0} where
  -- the frame of a text message is queued
  abbrev pub Queues : (S → Option (List ℕ)) → List ℕ → Socket S → Socket S → Type 0
  Queues contents message old new = Writes contents old new (write_step old.conn (text message))

  -- the frame of an empty ping is queued (RFC 6455, section 5.5.2)
  abbrev pub QueuesPing : (S → Option (List ℕ)) → Socket S → Socket S → Type 0
  QueuesPing contents old new = Writes contents old new (write_step old.conn (ping []))

  -- some queued bytes are sent, the ping is queued, and some queued bytes are sent
  abbrev pub IsPinged : (S → Option (List ℕ)) → Socket S → Socket S → Type 0
  IsPinged contents old new =
      (before : Socket S) × (behind : Socket S)
      × Flushed contents old before × QueuesPing contents before behind × Flushed contents behind new

  -- the frames of several messages are queued, in order
  unfoldable pub QueuesAll : (S → Option (List ℕ)) → List (List ℕ) → Socket S → Socket S → Type 0
  QueuesAll contents [] old new = new ≡ old
  QueuesAll contents (message ∷ messages) old new =
      (mid : Socket S) × Queues contents message old mid × QueuesAll contents messages mid new

  -- some queued bytes are sent, the messages are queued, and some queued bytes are sent
  abbrev pub IsSent : (S → Option (List ℕ)) → List (List ℕ) → Socket S → Socket S → Type 0
  IsSent contents messages old new =
      (before : Socket S) × (behind : Socket S)
      × Flushed contents old before × QueuesAll contents messages before behind × Flushed contents behind new
