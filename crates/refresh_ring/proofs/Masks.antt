-- Masks: one bit, and the bits from bit k on.
use Rattle.std.proofs.Common.{◌≡◌, ◌≢◌, ℕ, zero, suc, ◌==◌, not, ne_eqb, ◌<◌, ◌≤◌, ◌-◌, ◌*◌, ◌%◌, ◌^◌, min, sym, ◌∙◌, ap, arith, refl, bit_and, inl, inr, w64}
use Rattle.std.specs.Int.{bit_at, trailing_zeros}
use Rattle.std.proofs.lemmas.Nat.{and_le_l, one_shl, pow_pos}
use Rattle.std.proofs.lemmas.Bool.{cases_lt}
use Rattle.std.proofs.lemmas.Nat.Bits.{ones_shl, bit_at_and, bit_at_above, bit_at_mask_inside, bit_at_mask_below, bit_at-lt, bit_at-trailing_zeros, and_pow}

abbrev pub masked : ℕ → ℕ → ℕ
masked word k = bit_and word ((2 ^ 64 - 1) * 2 ^ k % 2 ^ 64)

split : (word k i : ℕ) → k < 64 → bit_at (masked word k) i ≡ min (bit_at word i) (bit_at (2 ^ 64 - 2 ^ k) i)
split word k i h =
    let within : k ≤ 64 = omega arith in
    ap (λ m. bit_at (bit_and word m) i) (ones_shl 64 k within) ∙ bit_at_and word (2 ^ 64 - 2 ^ k) i

pub inside : (word k i : ℕ) → word < 2 ^ 64 → k < 64 → k ≤ i → bit_at (masked word k) i ≡ bit_at word i
inside word k i small h le = elim (cases_lt i 64) [
  | inl lt ↦ let low : bit_at word i < 2 = bit_at-lt word i in
      let one : bit_at (2 ^ 64 - 2 ^ k) i ≡ 1 = bit_at_mask_inside k 64 i le lt in
      split word k i h ∙ rw one (omega arith)
  | inr ge ↦ let none : bit_at word i ≡ 0 = bit_at_above word 64 i small ge in
      split word k i h ∙ rw none (omega arith)
]

pub below : (word k i : ℕ) → k < 64 → i < k → bit_at (masked word k) i ≡ 0
below word k i h lt =
    let none : bit_at (2 ^ 64 - 2 ^ k) i ≡ 0 = bit_at_mask_below k 64 i lt in
    split word k i h ∙ rw none (omega arith)

-- the least bit of the mask is the least bit from k on
pub least : (word k : ℕ) → word < 2 ^ 64 → k < 64 → 0 < masked word k
    → (k ≤ trailing_zeros w64 (masked word k)) × (trailing_zeros w64 (masked word k) < 64) × (bit_at word (trailing_zeros w64 (masked word k)) ≡ 1)
    × ((i : ℕ) → k ≤ i → i < trailing_zeros w64 (masked word k) → bit_at word i ≡ 0)
least word k small h some =
    let le : masked word k ≤ word = and_le_l word _ in
    let z = bit_at-trailing_zeros w64 (masked word k) some (omega arith) in
    let from : k ≤ trailing_zeros w64 (masked word k) = elim (cases_lt (trailing_zeros w64 (masked word k)) k) [
      | inl lt ↦ let zero_bit : bit_at (masked word k) (trailing_zeros w64 (masked word k)) ≡ 0 = below word k _ h lt in
          let bad : ◌≡◌ {A = ℕ} 0 1 = sym zero_bit ∙ z.1 in absurd (omega arith)
      | inr ge ↦ ge
    ] in
    (from, z.0, sym (inside word k _ small h from) ∙ z.1, λ i ge lt. sym (inside word k i small h ge) ∙ z.2 i lt)

-- ---- one bit

scaled : (b k : ℕ) → b < 2 → not ((b * 2 ^ k) == 0) ≡ (b == 1)
scaled zero k h = let none : 0 * 2 ^ k ≡ 0 = omega arith in rw none refl
scaled (suc zero) k h =
    let some : 0 < 2 ^ k = pow_pos k in
    let whole : 1 * 2 ^ k ≢ 0 = λ e. omega arith in
    rw (ne_eqb (1 * 2 ^ k) 0 whole) refl
scaled (suc (suc n)) k h = absurd (omega arith)

-- the test by a mask
pub has_bit-is : (word k : ℕ) → k < 64 → not (bit_and word (1 * 2 ^ k % 18446744073709551616) == 0) ≡ (bit_at word k == 1)
has_bit-is word k h =
    let mask : 1 * 2 ^ k % 18446744073709551616 ≡ 2 ^ k = one_shl k 64 h in
    ap (λ m. not (m == 0)) (ap (bit_and word) mask ∙ and_pow word k) ∙ scaled (bit_at word k) k (bit_at-lt word k)
