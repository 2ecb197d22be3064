-- The lines that a run prints.
use Rattle.std.specs.Prelude.{ℕ, ◌≡◌, List, [], ◌∷◌, ◌++◌, Option, Ok}
use Rattle.std.specs.Io.KnownBytes.{Appends}
use Rattle.ln_frame.specs.Stream.{messages_of}
use Rattle.text.specs.HexText.{hex_of}
use Rattle.show_text.specs.Messages.{message_text}

-- a line, and its line feed
abbrev pub ended : List ℕ → List ℕ
ended text = text ++ 10 ∷ []

-- lines, each with its line feed
abbrev pub lines_text : List (List ℕ) → List ℕ
lines_text [] = []
lines_text (line ∷ lines) = ended line ++ lines_text lines

-- a line for each message, in order
abbrev pub messages_text : List (List ℕ) → List ℕ
messages_text [] = []
messages_text (message ∷ messages) = ended (message_text message) ++ messages_text messages

-- the monitor, on a hex text: a line for each whole message of its bytes, and nothing else
abbrev pub PrintsMessages : List ℕ → (old new : Option (List ℕ)) → Type 0
PrintsMessages text old new = (bytes : List ℕ) × (hex_of text ≡ Ok bytes) × Appends old new (messages_text (messages_of bytes))
