-- How an iterator holds the half-bits that are still to come: the bits of the packet as one number in which a set bit
-- stands for a zero, so that the ones of the preamble are above its highest bit, how many of them are left, and before
-- them the second half of a bit, where that is still to come.
use Rattle.std.specs.Prelude.{ℕ, ◌==◌, zero, suc, not, List, [], ◌∷◌, Option, Some, None}
use Rattle.std.specs.Int.{bit_at}
use Rattle.half_bits.specs.Halves.{micros}

abbrev pub both_halves : ℕ → ℕ → List ℕ
both_halves number zero = []
both_halves number (suc bits) =
    micros (not (bit_at number bits == 1)) ∷ micros (not (bit_at number bits == 1)) ∷ both_halves number bits

abbrev pub remaining : ℕ → ℕ → Option ℕ → List ℕ
remaining number bits None = both_halves number bits
remaining number bits (Some second) = second ∷ both_halves number bits
