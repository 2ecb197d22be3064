-- The message of whole bytes.
use Rattle.std.proofs.Common.{◌≡◌, ℕ, Bool, true, false, List, if◌then◌else◌, refl}
use Rattle.std.specs.Prelude.{Some, None}
use Rattle.ln_frame.specs.Message.{is_whole}

whole_if : (test : Bool) (bytes message : List ℕ) → (if test then Some bytes else None) ≡ Some message → (test ≡ true) × (bytes ≡ message)
whole_if true bytes message e = (refl, cc)
whole_if false bytes message e = absurd cc

pub whole_of : (bytes message : List ℕ) → (if is_whole bytes then Some bytes else None) ≡ Some message → (is_whole bytes ≡ true) × (bytes ≡ message)
whole_of bytes message e = whole_if (is_whole bytes) bytes message e
