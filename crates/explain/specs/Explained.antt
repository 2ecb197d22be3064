-- The output for a text (own).
use Rattle.std.specs.Prelude.{ℕ, List, ◌++◌, flat_map}
use Rattle.explain.specs.Lines.{body_of, end_of, lines_of}
use Rattle.explain.specs.Notes.{note_of}

-- a line, with its explanation before its end
abbrev pub shown : List ℕ → List ℕ
shown line = body_of line ++ note_of (body_of line) ++ end_of line

-- each line of a text, in order
unfoldable pub explained : List ℕ → List ℕ
explained text = flat_map shown (lines_of text)
