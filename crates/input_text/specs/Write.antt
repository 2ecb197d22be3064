-- Writing to an output.
use Rattle.std.specs.Prelude.{ℕ, ◌<◌, Bool, true, List, length, take, Option, Result, Ok, Err}
use Rattle.std.specs.Io.KnownBytes.{Appends}

-- whether an output has failed after a call that fails whenever the output does
abbrev pub failed_after : {A E : Type 0} → Result A E → (before : Bool) → Bool
failed_after (Ok a) before = before
failed_after (Err e) before = true

-- a proper prefix of a text was written
abbrev pub AppendsFront : (old new : Option (List ℕ)) → (text : List ℕ) → Type 0
AppendsFront old new text = (n : ℕ) × (n < length text) × Appends old new (take n text)
