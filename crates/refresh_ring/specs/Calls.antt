-- What a list of calls says of a slot: each pair is a slot and whether it is refreshed from then
-- on.
use Rattle.std.specs.Prelude.{ℕ, ◌≡◌, Bool, true, List, ◌∷◌, ◌++◌}
use Rattle.std.specs.List.{Contains}

-- the last pair of the slot says true
pub record IsLastOn (slot : ℕ) (calls : List (ℕ × Bool)) : Type 0 where
  pub before : List (ℕ × Bool)
  pub after : List (ℕ × Bool)
  pub are : calls ≡ before ++ (slot, true) ∷ after
  pub last : (on : Bool) → ¬ Contains after (slot, on)
