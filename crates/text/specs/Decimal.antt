-- Numbers of one to seven decimal digits.
use Rattle.std.specs.Prelude.{ℕ, Bool, List, ◌&&◌, Option, Some, None, nat_le, length, if◌then◌else◌}
use Rattle.std.specs.Char.{is_ascii_digit}
use Rattle.std.specs.Str.Parse.{digits_value}
use Rattle.std.specs.List.{list_all}

abbrev pub is_decimal : List ℕ → Bool
is_decimal word = nat_le 1 (length word) && nat_le (length word) 7 && list_all is_ascii_digit word

abbrev pub decimal_of : List ℕ → Option ℕ
decimal_of word = if is_decimal word then Some (digits_value 10 word) else None
