-- The results of the lines of a text, in order, for a given result of one line.
use Rattle.std.specs.Prelude.{ℕ, ◌≡◌, List, [], ◌∷◌, ◌++◌, Option, length}
use Rattle.std.specs.Option.{option_to_list}

-- a line with a fault has neither a result nor none
abbrev pub IsFaulty : {A : Type 0} → (List ℕ → Option A → Type 0) → List ℕ → Type 0
IsFaulty {A} Parses line = (item : Option A) → Parses line item → ⊥

-- lines have these results, in order
abbrev pub ParsesAll : {A : Type 0} → (List ℕ → Option A → Type 0) → List (List ℕ) → List A → Type 0
ParsesAll Parses [] all = all ≡ []
ParsesAll {A} Parses (line ∷ lines) all = (item : Option A) × (more : List A) × Parses line item × ParsesAll Parses lines more × (all ≡ option_to_list item ++ more)

-- the first line with a fault has this number, from 1
pub record FailsAt {A : Type 0} (Parses : List ℕ → Option A → Type 0) (all : List (List ℕ)) (number : ℕ) : Type 0 where
  pub before : List (List ℕ)
  pub line : List ℕ
  pub after : List (List ℕ)
  pub items_before : List A
  pub all_are : all ≡ before ++ line ∷ after
  pub numbered : number ≡ length (before ++ line ∷ [])
  pub item : ParsesAll Parses before items_before
  pub faulty : IsFaulty Parses line
