-- The marks that a number has.
use Rattle.std.proofs.Common.{◌≡◌, ℕ, zero, suc, ◌*◌, ◌%◌, ◌/◌, ◌^◌, ◌<◌, ◌==◌, ◌||◌, ◌-◌, ◌&&◌, not, max, min, Bool, true, false, inl, inr, List, ◌∷◌, length, replicate, refl, ap, sym, ◌∙◌, arith, bit_and, bit_or, w64, length-set}
use Rattle.std.proofs.lemmas.Bool.{cases_Bool, cases_eq, eq-eqb, eqb-true}
use Rattle.std.proofs.lemmas.List.{ext_get_or, get_or-set_same, get_or-set_other}
use Rattle.std.proofs.lemmas.Nat.Bits.{bit_at-lt, bit_at-suc, bit_at_and, bit_at_clear_other, bit_at_clear_same, bit_at_not, bit_at_lowest, bit_at_or, bit_at_set_other, bit_at_set_same, same_from_bits_below}
use Rattle.std.specs.Bool.{beq}
use Rattle.std.specs.Cmp.Lexicographic.{pointwise}
use Rattle.std.specs.Int.{bit_at}
use Rattle.std.specs.List.{slice_index_or}
use Rattle.std.specs.Prelude.{slice_set}
use Rattle.railway.specs.Blocks.{no_blocks}
use Rattle.railway.specs.BlockSets.{marks_from, marks_of}
use Rattle.railway.proofs.Keeping.{marks-self, same-marks}

marks-length : (n b : ℕ) → length (marks_from n b) ≡ n
unfolding marks_from
marks-length zero b = refl
marks-length (suc n) b = ap (λ (k : ℕ). suc k) (marks-length n (b / 2))

marks-at : (n b i : ℕ) → i < n → slice_index_or (marks_from n b) i false ≡ (bit_at b i == 1)
unfolding marks_from
marks-at zero b i h = absurd (omega (arith, h))
marks-at (suc n) b zero h = ap (λ (k : ℕ). k == 1) (sym (bit_at_lowest b))
marks-at (suc n) b (suc i) h = marks-at n (b / 2) i (omega (arith, h)) ∙ ap (λ (k : ℕ). k == 1) (sym (bit_at-suc b i))

-- each mark is a bit
pub mark-at : (b i : ℕ) → i < 64 → slice_index_or (marks_of b) i false ≡ (bit_at b i == 1)
mark-at b i h = marks-at 64 b i h

-- none
none-from : (n : ℕ) → marks_from n 0 ≡ replicate n false
unfolding marks_from
none-from zero = refl
none-from (suc n) = ap (λ (m : List Bool). false ∷ m) (none-from n)

pub marks-zero : marks_of 0 ≡ no_blocks
marks-zero = none-from 64

-- one more
set-at : (b k i : ℕ) → k < 64 → i < 64 → (bit_at (bit_or b (1 * 2 ^ k % 2 ^ 64)) i == 1) ≡ slice_index_or (slice_set (marks_of b) k true) i false
set-at b k i h g = elim (cases_eq i k) [
  | inl same ↦
      let here : k < length (marks_of b) = let e : length (marks_of b) ≡ 64 = marks-length 64 b in omega (arith, e, h) in
      ap (λ (j : ℕ). bit_at (bit_or b (1 * 2 ^ k % 2 ^ 64)) j == 1) same
      ∙ eq-eqb (bit_at (bit_or b (1 * 2 ^ k % 2 ^ 64)) k) 1 (bit_at_set_same w64 b k h)
      ∙ sym (get_or-set_same (marks_of b) k true false here)
      ∙ sym (ap (λ (j : ℕ). slice_index_or (slice_set (marks_of b) k true) j false) same)
  | inr other ↦
      ap (λ (bit : ℕ). bit == 1) (bit_at_set_other w64 b k h i other) ∙ sym (mark-at b i g) ∙ sym (get_or-set_other (marks_of b) k i true false other)
]

pub marks-set : (b k : ℕ) → k < 64 → marks_of (bit_or b (1 * 2 ^ k % 2 ^ 64)) ≡ slice_set (marks_of b) k true
marks-set b k h =
    let c : ℕ = bit_or b (1 * 2 ^ k % 2 ^ 64) in
    let one : length (marks_of c) ≡ 64 = marks-length 64 c in
    let two : length (slice_set (marks_of b) k true) ≡ 64 = length-set (marks_of b) k true ∙ marks-length 64 b in
    ext_get_or false (marks_of c) (slice_set (marks_of b) k true) (one ∙ sym two) (λ i less. let g : i < 64 = omega (arith, less, one) in mark-at c i g ∙ set-at b k i h g)

-- one less
clear-at : (b k i : ℕ) → k < 64 → i < 64 → (bit_at (bit_and b (2 ^ 64 - 1 - 1 * 2 ^ k % 2 ^ 64)) i == 1) ≡ slice_index_or (slice_set (marks_of b) k false) i false
clear-at b k i h g = elim (cases_eq i k) [
  | inl same ↦
      let here : k < length (marks_of b) = let e : length (marks_of b) ≡ 64 = marks-length 64 b in omega (arith, e, h) in
      ap (λ (j : ℕ). bit_at (bit_and b (2 ^ 64 - 1 - 1 * 2 ^ k % 2 ^ 64)) j == 1) same
      ∙ ap (λ (bit : ℕ). bit == 1) (bit_at_clear_same w64 b k h)
      ∙ sym (get_or-set_same (marks_of b) k false false here)
      ∙ sym (ap (λ (j : ℕ). slice_index_or (slice_set (marks_of b) k false) j false) same)
  | inr other ↦
      ap (λ (bit : ℕ). bit == 1) (bit_at_clear_other w64 b k h i g other) ∙ sym (mark-at b i g) ∙ sym (get_or-set_other (marks_of b) k i false false other)
]

pub marks-clear : (b k : ℕ) → k < 64 → marks_of (bit_and b (2 ^ 64 - 1 - 1 * 2 ^ k % 2 ^ 64)) ≡ slice_set (marks_of b) k false
marks-clear b k h =
    let c : ℕ = bit_and b (2 ^ 64 - 1 - 1 * 2 ^ k % 2 ^ 64) in
    let one : length (marks_of c) ≡ 64 = marks-length 64 c in
    let two : length (slice_set (marks_of b) k false) ≡ 64 = length-set (marks_of b) k false ∙ marks-length 64 b in
    ext_get_or false (marks_of c) (slice_set (marks_of b) k false) (one ∙ sym two) (λ i less. let g : i < 64 = omega (arith, less, one) in mark-at c i g ∙ clear-at b k i h g)

-- those of one number and not of the other
only-bit : (a b : ℕ) → a < 2 → b < 2 → (min a (1 - b) == 1) ≡ ((a == 1) && not (b == 1))
only-bit zero zero h g = refl
only-bit zero (suc zero) h g = refl
only-bit (suc zero) zero h g = refl
only-bit (suc zero) (suc zero) h g = refl
only-bit (suc (suc a)) b h g = absurd (omega (arith, h))
only-bit a (suc (suc b)) h g = absurd (omega (arith, g))

pub marks-minus : (a b i : ℕ) → b < 2 ^ 64 → i < 64 → slice_index_or (marks_of (bit_and a (2 ^ 64 - 1 - b))) i false ≡ (slice_index_or (marks_of a) i false && not (slice_index_or (marks_of b) i false))
marks-minus a b i fits h =
    mark-at (bit_and a (2 ^ 64 - 1 - b)) i h
    ∙ ap (λ (k : ℕ). k == 1) (bit_at_and a (2 ^ 64 - 1 - b) i ∙ ap (λ (k : ℕ). min (bit_at a i) k) (bit_at_not w64 b i fits h))
    ∙ only-bit (bit_at a i) (bit_at b i) (bit_at-lt a i) (bit_at-lt b i)
    ∙ ap (λ (m : Bool). m && not (bit_at b i == 1)) (sym (mark-at a i h)) ∙ ap (λ (m : Bool). slice_index_or (marks_of a) i false && not m) (sym (mark-at b i h))

-- those of two numbers
either-bit : (a b : ℕ) → a < 2 → b < 2 → (max a b == 1) ≡ ((a == 1) || (b == 1))
either-bit zero zero h g = refl
either-bit zero (suc zero) h g = refl
either-bit (suc zero) zero h g = refl
either-bit (suc zero) (suc zero) h g = refl
either-bit (suc (suc a)) b h g = absurd (omega (arith, h))
either-bit a (suc (suc b)) h g = absurd (omega (arith, g))

pub marks-or : (a b i : ℕ) → i < 64 → slice_index_or (marks_of (bit_or a b)) i false ≡ (slice_index_or (marks_of a) i false || slice_index_or (marks_of b) i false)
marks-or a b i h =
    mark-at (bit_or a b) i h ∙ ap (λ (k : ℕ). k == 1) (bit_at_or a b i) ∙ either-bit (bit_at a i) (bit_at b i) (bit_at-lt a i) (bit_at-lt b i)
    ∙ ap (λ (m : Bool). m || (bit_at b i == 1)) (sym (mark-at a i h)) ∙ ap (λ (m : Bool). slice_index_or (marks_of a) i false || m) (sym (mark-at b i h))

-- two numbers with the same marks are the same
same-bit : (a b : ℕ) → a < 2 → b < 2 → (a == 1) ≡ (b == 1) → a ≡ b
same-bit zero zero h g e = refl
same-bit zero (suc zero) h g e = cc
same-bit (suc zero) zero h g e = cc
same-bit (suc zero) (suc zero) h g e = refl
same-bit (suc (suc a)) b h g e = absurd (omega (arith, h))
same-bit a (suc (suc b)) h g e = absurd (omega (arith, g))

marks-same : (a b : ℕ) → a < 2 ^ 64 → b < 2 ^ 64 → marks_of a ≡ marks_of b → a ≡ b
marks-same a b h g e =
    same_from_bits_below 64 a b h g
    (λ i less.
    same-bit (bit_at a i) (bit_at b i) (bit_at-lt a i) (bit_at-lt b i) (sym (mark-at a i less) ∙ ap (λ (m : List Bool). slice_index_or m i false) e ∙ mark-at b i less))

pub marks-eq : (a b : ℕ) → a < 2 ^ 64 → b < 2 ^ 64 → (a == b) ≡ pointwise beq (marks_of a) (marks_of b)
marks-eq a b h g = elim (cases_Bool (a == b)) [
  | inl same ↦ same ∙ sym (ap (λ (c : ℕ). pointwise beq (marks_of a) (marks_of c)) (sym (eqb-true a b same)) ∙ marks-self (marks_of a))
  | inr other ↦ elim (cases_Bool (pointwise beq (marks_of a) (marks_of b))) [
    | inl all ↦ absurd (never a b other (marks-same a b h g (same-marks (marks_of a) (marks_of b) all)))
    | inr none ↦ other ∙ sym none
  ]
] where
  never : (a b : ℕ) → (a == b) ≡ false → a ≡ b → ⊥
  never a b o e = both (sym (eq-eqb a b e) ∙ o) where
    both : true ≡ false → ⊥
    both x = cc
