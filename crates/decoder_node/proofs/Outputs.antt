-- One output as a bit of a number.
use Rattle.std.proofs.Common.{◌≡◌, ◌≢◌, ℕ, ◌+◌, ◌-◌, ◌*◌, ◌/◌, ◌%◌, ◌^◌, ◌<◌, suc, zero, ap, sym, ◌∙◌, inl, inr, arith, bit_or, bit_and, w8}
use Rattle.std.proofs.lemmas.Bool.{cases_lt, cases_eq}
use Rattle.std.proofs.lemmas.Nat.{pow-add, pow_pos, and_le_l, or_lt, div-add-mod'}
use Rattle.std.proofs.lemmas.Nat.Bits.{bit_at-suc, bit_at_lowest, bit_at_cat_low, bit_at_cat_high, bit_at_set_same, bit_at_set_other, bit_at_clear_same, bit_at_clear_other, same_from_bits_below}
use Rattle.std.specs.Int.{bit_at}
use Rattle.decoder_node.specs.Bits.{with_bits}

twice : (p : ℕ) → 2 ^ (p + 1) ≡ 2 * 2 ^ p
twice p = pow-add 2 p 1 ∙ omega arith

above_below : (a b q r : ℕ) → a * (2 * q) + b * q + r ≡ (a * 2 + b) * q + r
above_below a b q r = omega arith

-- the bits above, the bit, and the bits below
split : (n p b : ℕ) → with_bits n p 1 b ≡ (n / 2 ^ (p + 1) * 2 + b) * 2 ^ p + n % 2 ^ p
split n p b = ap (λ (t : ℕ). n / 2 ^ (p + 1) * t + b * 2 ^ p + n % 2 ^ p) (twice p) ∙ above_below (n / 2 ^ (p + 1)) b (2 ^ p) (n % 2 ^ p)

below_one : (n p : ℕ) → n % 2 ^ p < 2 ^ p
below_one n p = omega (arith, pow_pos p)

low : (n p b i : ℕ) → i < p → bit_at (with_bits n p 1 b) i ≡ bit_at n i
low n p b i h =
    ap (λ (m : ℕ). bit_at m i) (split n p b) ∙ bit_at_cat_low (n / 2 ^ (p + 1) * 2 + b) p (n % 2 ^ p) i h
    ∙ sym (bit_at_cat_low (n / 2 ^ p) p (n % 2 ^ p) i h) ∙ ap (λ (m : ℕ). bit_at m i) (div-add-mod' n (2 ^ p))

same : (n p b : ℕ) → b < 2 → bit_at (with_bits n p 1 b) p ≡ b
same n p b h =
    let none : p - p ≡ 0 = omega arith in
    let last : (n / 2 ^ (p + 1) * 2 + b) % 2 ≡ b = omega arith in
    ap (λ (m : ℕ). bit_at m p) (split n p b) ∙ bit_at_cat_high (n / 2 ^ (p + 1) * 2 + b) p (n % 2 ^ p) p (below_one n p) (omega arith)
    ∙ ap (bit_at (n / 2 ^ (p + 1) * 2 + b)) none ∙ bit_at_lowest (n / 2 ^ (p + 1) * 2 + b) ∙ last

high : (n p b i : ℕ) → b < 2 → p < i → bit_at (with_bits n p 1 b) i ≡ bit_at n i
high n p b i h l =
    let j = i - p - 1 in
    let over : i - p ≡ suc j = omega arith in
    let half : (n / 2 ^ (p + 1) * 2 + b) / 2 ≡ n / 2 ^ (p + 1) = omega arith in
    let far : i - (p + 1) ≡ j = omega arith in
    ap (λ (m : ℕ). bit_at m i) (split n p b) ∙ bit_at_cat_high (n / 2 ^ (p + 1) * 2 + b) p (n % 2 ^ p) i (below_one n p) (omega arith)
    ∙ ap (bit_at (n / 2 ^ (p + 1) * 2 + b)) over ∙ bit_at-suc (n / 2 ^ (p + 1) * 2 + b) j ∙ ap (λ (m : ℕ). bit_at m j) half
    ∙ sym (ap (λ (m : ℕ). bit_at m i) (sym (div-add-mod' n (2 ^ (p + 1)))) ∙ bit_at_cat_high (n / 2 ^ (p + 1)) (p + 1) (n % 2 ^ (p + 1)) i (below_one n (p + 1)) (omega arith) ∙ ap (bit_at (n / 2 ^ (p + 1))) far)

-- where another number differs in this bit alone, it is this one
is_it : (n p b m : ℕ) → b < 2 → bit_at m p ≡ b → ((i : ℕ) → i < 8 → i ≢ p → bit_at m i ≡ bit_at n i) → (i : ℕ) → i < 8 → bit_at m i ≡ bit_at (with_bits n p 1 b) i
is_it n p b m h at others i w = elim (cases_lt i p) [
  | inl less ↦ others i w (omega arith) ∙ sym (low n p b i less)
  | inr more ↦ elim (cases_eq i p) [
    | inl here ↦ ap (bit_at m) here ∙ at ∙ sym (same n p b h) ∙ ap (bit_at (with_bits n p 1 b)) (sym here)
    | inr past ↦ others i w past ∙ sym (high n p b i h (omega arith))
  ]
]

bound : (n p b : ℕ) → n < 256 → b < 2 → p < 8 → with_bits n p 1 b < 256
bound n zero b h l w = omega arith
bound n (suc zero) b h l w = omega arith
bound n (suc (suc zero)) b h l w = omega arith
bound n (suc (suc (suc zero))) b h l w = omega arith
bound n (suc (suc (suc (suc zero)))) b h l w = omega arith
bound n (suc (suc (suc (suc (suc zero))))) b h l w = omega arith
bound n (suc (suc (suc (suc (suc (suc zero)))))) b h l w = omega arith
bound n (suc (suc (suc (suc (suc (suc (suc zero))))))) b h l w = omega arith
bound n (suc (suc (suc (suc (suc (suc (suc (suc p)))))))) b h l w = absurd (omega arith)

pub switched_on : (n p : ℕ) → n < 256 → p < 8 → bit_or n (1 * 2 ^ p % 256) ≡ with_bits n p 1 1
switched_on n p h w =
    same_from_bits_below 8 (bit_or n (1 * 2 ^ p % 256)) (with_bits n p 1 1) (or_lt 8 n (1 * 2 ^ p % 256) h (omega arith)) (bound n p 1 h (omega arith) w)
    (is_it n p 1 (bit_or n (1 * 2 ^ p % 256)) (omega arith) (bit_at_set_same w8 n p w) (λ i v e. bit_at_set_other w8 n p w i e))

pub switched_off : (n p : ℕ) → n < 256 → p < 8 → bit_and n (255 - 1 * 2 ^ p % 256) ≡ with_bits n p 1 0
switched_off n p h w =
    same_from_bits_below 8 (bit_and n (255 - 1 * 2 ^ p % 256)) (with_bits n p 1 0) (omega (arith, and_le_l n (255 - 1 * 2 ^ p % 256))) (bound n p 0 h (omega arith) w)
    (is_it n p 0 (bit_and n (255 - 1 * 2 ^ p % 256)) (omega arith) (bit_at_clear_same w8 n p w) (λ i v e. bit_at_clear_other w8 n p w i v e))
