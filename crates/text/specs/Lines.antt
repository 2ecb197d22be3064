-- Line feeds.
use Rattle.std.specs.Prelude.{ℕ, Bool, ◌==◌, List, not}
use Rattle.std.specs.List.{list_all}

-- no line ends here
abbrev pub is_open : List ℕ → Bool
is_open = list_all (λ b. not (b == 10))
