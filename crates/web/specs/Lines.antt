-- The lines of a head that are whole.
use Rattle.std.specs.Prelude.{ℕ, Bool, ◌==◌, not, if◌then◌else◌, List, [], ◌∷◌, take}
use Rattle.std.specs.List.{list_all}

-- no line ends here
abbrev pub is_open : List ℕ → Bool
is_open = list_all (λ b. not (b == 10))

-- the text up to its last line feed
abbrev pub whole_lines : List ℕ → List ℕ
whole_lines [] = []
whole_lines (b ∷ text) = if is_open (b ∷ text) then [] else b ∷ whole_lines text

-- the part of a request that is examined: the whole lines of its first 8,192 bytes
unfoldable pub lines_so_far : List ℕ → List ℕ
lines_so_far text = whole_lines (take 8192 text)
