-- The monitor of JMRI, which has the bytes of a message between brackets, and the time before them if that is wanted (own):
-- `[A0 01 40 1E]  ..` and `15:29:51.123: [A0 01 40 1E]  ..`.
use Rattle.std.specs.Prelude.{ℕ, ◌==◌, Bool, if◌then◌else◌, List, [], ◌∷◌, Option, Some, None}
use Rattle.std.specs.List.{after_first, before_first}
use Rattle.text.specs.Words.{is_blank}

-- `]`
abbrev pub is_closing : ℕ → Bool
is_closing byte = byte == 93

-- the text between a `[` at the beginning and the next `]`
abbrev pub bracketed_in : List ℕ → Option (List ℕ)
bracketed_in [] = None
bracketed_in (b ∷ text) = if b == 91 then Some (before_first is_closing text) else None

abbrev pub given_or : Option (List ℕ) → (otherwise : List ℕ) → List ℕ
given_or None otherwise = otherwise
given_or (Some text) otherwise = text

-- what is between brackets, if the first or the second word begins with one, else the line
unfoldable pub without_brackets : List ℕ → List ℕ
without_brackets line = given_or (bracketed_in line) (given_or (bracketed_in (after_first is_blank line)) line)
