-- Bits as digits.
use Rattle.std.proofs.Common.{◌≡◌, ℕ, ◌+◌, [], ◌∷◌, ◌++◌, length, refl, arith}
use Rattle.std.specs.Int.{bit_at}
use Rattle.std.proofs.lemmas.List.FromFn.{length-map-range_with_len, map-range_with_len_more}
use Rattle.show_text.specs.Lines.{bits_text}

pub length-bits_text : (count n : ℕ) → length (bits_text count n) ≡ count
unfolding bits_text
length-bits_text count n = length-map-range_with_len (λ k. 48 + bit_at n k) 0 count

pub no_bits : (n : ℕ) → bits_text 0 n ≡ []
unfolding bits_text
no_bits n = refl

pub one_more_bit : (k n : ℕ) → bits_text (k + 1) n ≡ bits_text k n ++ (48 + bit_at n k) ∷ []
unfolding bits_text
one_more_bit k n = map-range_with_len_more (λ k. 48 + bit_at n k) 0 k k (omega arith)
