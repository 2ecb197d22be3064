-- Functions and outputs as bits of a number.
use Rattle.std.specs.Prelude.{ℕ, ◌+◌, ◌*◌, ◌/◌, ◌%◌, ◌^◌}

-- `count` bits, from bit `first` on, are as in `bits`, the lowest first, and the others stay.
abbrev pub with_bits : (number first count bits : ℕ) → ℕ
with_bits number first count bits =
    number / 2 ^ (first + count) * 2 ^ (first + count) + bits * 2 ^ first + number % 2 ^ first
