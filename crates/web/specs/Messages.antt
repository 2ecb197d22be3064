-- Lines of text, and messages of one line each.
use Rattle.std.specs.Prelude.{ℕ, ◌≡◌, ◌==◌, if◌then◌else◌, nat_lt, List, [], ◌∷◌, ◌++◌, length, map, take, bytes_eq}

-- the bytes held of a line after its next byte: its first 512
abbrev pub held_after : List ℕ → ℕ → List ℕ
held_after held b = if nat_lt (length held) 512 then held ++ b ∷ [] else held

-- a line without the carriage return at its end
abbrev pub without_return : List ℕ → List ℕ
without_return [] = []
without_return (b ∷ line) = if bytes_eq (b ∷ line) (13 ∷ []) then [] else b ∷ without_return line

-- the messages of bytes that follow the bytes held of a line, and the bytes held after them
abbrev pub messages_along : (held : List ℕ) → List ℕ → List (List ℕ)
messages_along held [] = []
messages_along held (b ∷ text) =
    if b == 10 then without_return held ∷ messages_along [] text else messages_along (held_after held b) text

abbrev pub held_along : (held : List ℕ) → List ℕ → List ℕ
held_along held [] = held
held_along held (b ∷ text) = if b == 10 then held_along [] text else held_along (held_after held b) text

-- the messages of the first n bytes that follow the bytes held, and that the bytes held after them are these
abbrev pub messages_of_first : (n : ℕ) → (bytes held : List ℕ) → List (List ℕ)
messages_of_first n bytes held = messages_along held (take n bytes)

abbrev pub HoldsAfter : (bytes before after : List ℕ) → (n : ℕ) → Type 0
HoldsAfter bytes before after n = after ≡ held_along before (take n bytes)

-- a byte before the first line; nothing if no line ends
abbrev pub onto_line : ℕ → List (List ℕ) → List (List ℕ)
onto_line b [] = []
onto_line b (line ∷ lines) = (b ∷ line) ∷ lines

-- the lines that end in a text, in order, each without its line feed
abbrev pub ended_lines : List ℕ → List (List ℕ)
ended_lines [] = []
ended_lines (b ∷ text) = if b == 10 then [] ∷ ended_lines text else onto_line b (ended_lines text)

-- the message of a line: its first 512 bytes, without a carriage return at their end
abbrev pub message_of : List ℕ → List ℕ
message_of line = without_return (take 512 line)

-- the messages of a text: one for each line that ends in it
abbrev pub messages_of : List ℕ → List (List ℕ)
messages_of text = map message_of (ended_lines text)
