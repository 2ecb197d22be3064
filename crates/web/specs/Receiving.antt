-- Reading text messages of a page (RFC 6455, section 5.6).
use Rattle.std.specs.Prelude.{◌≡◌, ◌<◌, ℕ, List, [], ◌∷◌, ◌++◌, length, Option, Some, None, Result, Ok, Err, ⊤}
use Rattle.std.specs.Io.KnownBytes.{Consumes}
use Rattle.tungstenite.specs.Failure.{IsIo}
use Rattle.tungstenite.specs.Socket.{Reads, Run, Runs, Socket, content_of}
use Rattle.tungstenite.specs.declared.error.Error.{Error}
use Rattle.tungstenite.specs.declared.message.Message.{Message}
use Rattle.websocket.specs.Content.{Content, text, binary, ping, pong, close}

-- the next message in the frames of a socket's stream is this text
abbrev pub Receives : {S : Type 0} → (S → Option (List ℕ)) → List ℕ → Socket S → Socket S → Type 0
Receives remaining line old new =
    (message : Message) × Reads remaining old new (Ok message) × (content_of message ≡ text line)

-- a ping, a pong or a close
abbrev pub IsControl : Content → Type 0
IsControl (text line) = ⊥
IsControl (binary bytes) = ⊥
IsControl (ping bytes) = ⊤
IsControl (pong bytes) = ⊤
IsControl (close frame) = ⊤

-- no message, or one of these
abbrev pub MayBeControl : Option Content → Type 0
MayBeControl None = ⊤
MayBeControl (Some message) = IsControl message

-- each message of a run of frames is a ping, a pong or a close
abbrev pub HasControlsOnly : Run → Type 0
HasControlsOnly [] = ⊤
HasControlsOnly (frame ∷ frames) = MayBeControl frame.1.message × HasControlsOnly frames

-- The frames read held no text message, and all bytes after them are still to be read.
abbrev pub ReceivesNoText : {S : Type 0} → (S → Option (List ℕ)) → Socket S → Socket S → Type 0
ReceivesNoText remaining old new =
    (frames : Run) × (got : List ℕ) × Runs old.conn (old.input ++ got) frames new.conn new.input × HasControlsOnly frames
    × (old.output ≡ [] → Consumes (remaining old.stream) (remaining new.stream) got)

-- binary, or a text of more than 512 bytes
abbrev pub IsForbidden : Content → Type 0
IsForbidden (text line) = 512 < length line
IsForbidden (binary bytes) = ⊤
IsForbidden (ping bytes) = ⊥
IsForbidden (pong bytes) = ⊥
IsForbidden (close frame) = ⊥

-- no further message can be read: the next one is forbidden, or the frames end or are invalid
abbrev pub IsLast : Result Message Error → Type 0
IsLast (Ok message) = IsForbidden (content_of message)
IsLast (Err error) = ¬ (IsIo error)

abbrev pub ReceivesEnd : {S : Type 0} → (S → Option (List ℕ)) → Socket S → Type 0
ReceivesEnd remaining old = (new : Socket _) × (last : Result Message Error) × Reads remaining old new last × IsLast last
