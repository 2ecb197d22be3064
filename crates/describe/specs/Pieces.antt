-- Numbers, and lists of functions, as text.
use Rattle.std.specs.Prelude.{ℕ, ◌≡◌, ◌≤◌, ◌+◌, ◌/◌, ◌%◌, ◌==◌, Bool, if◌then◌else◌, List, [], ◌∷◌, ◌++◌, codes}
use Rattle.std.specs.Fmt.{decimal}
use Rattle.arrayvec.specs.ArrayVec.{ArrayVec, array_vec_len}
use Rattle.text.specs.Hex.{hex_char}

-- a text is appended, of at most so many bytes
pub record Appends (added : List ℕ) (most : ℕ) (before after : ArrayVec ℕ) : Type 0 where
  pub text : after.items ≡ before.items ++ added
  pub len : array_vec_len after ≤ array_vec_len before + most

-- two digits
abbrev pub hex_pair : ℕ → List ℕ
hex_pair b = hex_char (b / 16) ∷ hex_char (b % 16) ∷ []

-- the name of a function that is on, and nothing for one that is off
abbrev pub one_on : ℕ → Bool → List ℕ
one_on number on = if on then codes " F" ++ decimal number else []

-- those of four functions that are on, the first in bit 0
unfoldable pub four_on : ℕ → ℕ → List ℕ
four_on first bits =
    one_on first (bits % 2 == 1) ++ one_on (first + 1) (bits / 2 % 2 == 1)
    ++ one_on (first + 2) (bits / 4 % 2 == 1) ++ one_on (first + 3) (bits / 8 % 2 == 1)

-- those of eight, the first in bit 0
unfoldable pub eight_on : ℕ → ℕ → List ℕ
eight_on first bits = four_on first bits ++ four_on (first + 4) (bits / 16)

-- those of eight that are on, or that all are off
abbrev pub states_words : ℕ → ℕ → List ℕ
states_words first bits = if bits == 0 then codes " all off" else eight_on first bits ++ codes " on"

-- the label of a group of functions, and the names of those that are on, the first in bit 0
unfoldable pub functions_words : List ℕ → ℕ → ℕ → List ℕ
functions_words label first bits = label ++ states_words first bits
