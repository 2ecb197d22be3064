-- Bytes as pairs of hexadecimal digits. Digits of either case are a rule of this project.
use Rattle.std.specs.Prelude.{ℕ, ◌&&◌, ◌+◌, ◌*◌, ◌-◌, ◌/◌, ◌%◌, ◌++◌, if◌then◌else◌, nat_le, nat_lt, List, [], ◌∷◌, Option, Some, None}
use Rattle.std.specs.Char.{is_ascii_digit}

-- the hexadecimal digit of a number below 16, in upper case
abbrev pub hex_char : ℕ → ℕ
hex_char n = if nat_lt n 10 then 48 + n else 65 + (n - 10)

-- a space and two digits
abbrev pub hex_word : ℕ → List ℕ
hex_word b = 32 ∷ hex_char (b / 16) ∷ hex_char (b % 16) ∷ []

-- each byte after a space
abbrev pub hex_words : List ℕ → List ℕ
hex_words [] = []
hex_words (b ∷ bs) = hex_word b ++ hex_words bs

-- Two hexadecimal digits of either case.

abbrev pub digit_of : ℕ → Option ℕ
digit_of b =
    if is_ascii_digit b then Some (b - 48)
    else if nat_le 65 b && nat_le b 70 then Some (b - 55)
    else if nat_le 97 b && nat_le b 102 then Some (b - 87)
    else None

abbrev pub both : Option ℕ → Option ℕ → Option ℕ
both (Some high) (Some low) = Some (16 * high + low)
both (Some high) None = None
both None low = None

abbrev pub pair_of : List ℕ → Option ℕ
pair_of [] = None
pair_of (high ∷ []) = None
pair_of (high ∷ low ∷ []) = both (digit_of high) (digit_of low)
pair_of (high ∷ low ∷ b ∷ bs) = None
