-- Reading an input.
use Rattle.std.specs.Prelude.{ℕ, ◌≡◌, ◌≤◌, ◌⊎◌, Bool, true, false, List, length, Option, Result, Ok, Err}
use Rattle.std.specs.Io.KnownBytes.{Consumes, IsAtEnd}
use Rattle.input_text.specs.declared.input.ReadFault.{ReadFault}
use Rattle.input_text.specs.declared.input.ReadFault.TheVariants.{Failed, NoMemory}

-- whether a read failed for a reason other than memory
abbrev pub has_failed : {A : Type 0} → Result A ReadFault → Bool
has_failed (Ok a) = false
has_failed (Err Failed) = true
has_failed (Err NoMemory) = false

-- the number of bytes that a read returned
abbrev pub count_in : {E : Type 0} → Result ℕ E → ℕ
count_in (Ok n) = n
count_in (Err e) = 0

-- the bytes were read from the input: `limit` of them, or all that it had and fewer
pub record ReadsMost (old new : Option (List ℕ)) (limit : ℕ) (bytes : List ℕ) : Type 0 where
  pub taken : Consumes old new bytes
  pub most : length bytes ≤ limit
  pub enough : (length bytes ≡ limit) ⊎ IsAtEnd new
