-- The lines of a text, each with its end.
use Rattle.std.specs.Prelude.{ℕ, Bool, ◌==◌, ◌||◌, if◌then◌else◌, List, [], ◌∷◌}
use Rattle.std.specs.Str.{bytes_eq}

-- a byte before the first line
abbrev pub onto_line : ℕ → List (List ℕ) → List (List ℕ)
onto_line b [] = (b ∷ []) ∷ []
onto_line b (line ∷ lines) = (b ∷ line) ∷ lines

-- the lines of a text: each ends with its line feed, and the last with the text, if anything
-- follows the others
abbrev pub lines_of : List ℕ → List (List ℕ)
lines_of [] = []
lines_of (b ∷ text) = if b == 10 then (10 ∷ []) ∷ lines_of text else onto_line b (lines_of text)

-- a line feed, or a carriage return and a line feed
abbrev pub is_end : List ℕ → Bool
is_end text = bytes_eq text (10 ∷ []) || bytes_eq text (13 ∷ 10 ∷ [])

-- the text of a line before its end
abbrev pub body_of : List ℕ → List ℕ
body_of [] = []
body_of (b ∷ line) = if is_end (b ∷ line) then [] else b ∷ body_of line

-- the end of a line; the last line of a text may have none
abbrev pub end_of : List ℕ → List ℕ
end_of [] = []
end_of (b ∷ line) = if is_end (b ∷ line) then b ∷ line else end_of line
