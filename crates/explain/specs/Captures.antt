-- Captured bytes as a text (own).
use Rattle.std.specs.Prelude.{ℕ, List, ◌++◌, flat_map}
use Rattle.explain.specs.HexText.{hex_line}
use Rattle.explain.specs.Parts.{back_of, front_of, parts_of}

-- the message that a part begins with, which may be broken off, in a line, and the bytes behind it in
-- another
unfoldable pub part_lines : List ℕ → List ℕ
part_lines part = hex_line (front_of part) ++ hex_line (back_of part)

unfoldable pub capture_text : List ℕ → List ℕ
capture_text bytes = flat_map part_lines (parts_of bytes)
