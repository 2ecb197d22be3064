-- The variables of a decoder by its file, which lists some of them.
use Rattle.std.specs.Prelude.{ℕ, ◌+◌, ◌==◌, if◌then◌else◌, List}
use Rattle.std.specs.Option.{unwrap_or}
use Rattle.decoder_cv.specs.declared.cv_pair.CvPair.{CvPair}
use Rattle.decoder_cv.specs.Listed.{value_in}

-- CV17 that is not listed is 192, as a long address begins with it (S-9.2.2); all others are 0
abbrev pub default_value : (address : ℕ) → ℕ
default_value address = if address == 16 then 192 else 0

abbrev pub filed_value : List CvPair → (address : ℕ) → ℕ
filed_value pairs address = unwrap_or (value_in (address + 1) pairs) (default_value address)
