-- The output still to be written for a text, in the middle of a line.
use Rattle.std.specs.Prelude.{ℕ, Bool, if◌then◌else◌, List, [], ◌∷◌, ◌++◌, flat_map}
use Rattle.explain.specs.Explained.{explained, shown}
use Rattle.explain.specs.Lines.{lines_of}

-- after the beginning of a line that is too long: its rest, as it is, and the other lines explained
abbrev pub copied : List (List ℕ) → List ℕ
copied [] = []
copied (line ∷ lines) = line ++ flat_map shown lines

-- The output for a text after this held beginning of a line, or after the written beginning of a
-- line that is too long.
unfoldable pub to_write : (is_long : Bool) → (held text : List ℕ) → List ℕ
to_write is_long held text = if is_long then copied (lines_of text) else explained (held ++ text)
