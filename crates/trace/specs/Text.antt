-- The results of the lines of a text (own).
use Rattle.std.specs.Prelude.{ℕ, ◌≤◌, List, Option, length}
use Rattle.std.specs.Str.Lines.{lines}
use Rattle.trace.specs.Parsed.{ParsesAll}

-- a text of at most 16,777,216 bytes whose lines have these results
abbrev pub TextParses : {A : Type 0} → (List ℕ → Option A → Type 0) → List ℕ → List A → Type 0
TextParses Parses text things = (length text ≤ 16777216) × ParsesAll Parses (lines text) things
