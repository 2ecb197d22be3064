-- Bits of a mask that are set one after another.
use Rattle.std.proofs.Common.{◌≡◌, ◌≢◌, ℕ, ◌+◌, ◌*◌, ◌%◌, ◌<◌, ◌≤◌, ◌^◌, Bool, true, false, refl, ap, sym, subst, ◌∙◌, arith, inl, inr, bit_or, add-one, lt-ltb, le-ltb}
use Rattle.std.specs.Prelude.{if◌then◌else◌, ◌&&◌, nat_lt}
use Rattle.std.specs.Int.{bit_at}
use Rattle.std.proofs.Math.Nat.{mod-eq_of_lt}
use Rattle.std.proofs.Math.Pow.{pow-lt}
use Rattle.std.proofs.lemmas.Bool.{cases_eq}
use Rattle.std.proofs.lemmas.Bool.Decides.{nat_tests}
use Rattle.std.proofs.lemmas.Nat.Bits.{bit_at-zero, bit_at_or, bit_at-pow_same, bit_at-pow_other, bit_at-lt}
use Rattle.rand_pcg.specs.Lcg.{Lcg}
use Rattle.bus_server.specs.Generator.{generator_after, next_generator, word_at, word_of}

-- bit k of those that pass, below n
abbrev pub mark_of : (ℕ → Bool) → ℕ → ℕ → ℕ
mark_of passes n k = if nat_lt k n && passes k then 1 else 0

mark_above : (passes : ℕ → Bool) (n k : ℕ) → n ≤ k → mark_of passes n k ≡ 0
mark_above passes n k above = ap (λ (b : Bool). if b && passes k then 1 else 0) (le-ltb k n above)

mark_below : (passes : ℕ → Bool) (n k : ℕ) → k < n → mark_of passes n k ≡ (if passes k then 1 else 0)
mark_below passes n k below = ap (λ (b : Bool). if b && passes k then 1 else 0) (lt-ltb k n below)

mark_other : (passes : ℕ → Bool) (n k : ℕ) → k ≢ n → mark_of passes (n + 1) k ≡ mark_of passes n k
mark_other passes n k other =
    let same : nat_lt k (n + 1) ≡ nat_lt k n = grind (arith, nat_tests) in
    ap (λ (b : Bool). if b && passes k then 1 else 0) same

-- before the first
pub none_marked : (passes : ℕ → Bool) (k : ℕ) → bit_at 0 k ≡ mark_of passes 0 k
none_marked passes k = let first : 0 ≤ k = omega arith in bit_at-zero k ∙ sym (mark_above passes 0 k first)

-- one that passes
pub one_marked : (passes : ℕ → Bool) (mask n : ℕ) → ((k : ℕ) → bit_at mask k ≡ mark_of passes n k) → passes n ≡ true → (k : ℕ) → bit_at (bit_or mask (2 ^ n)) k ≡ mark_of passes (n + 1) k
one_marked passes mask n marked pass k = elim (cases_eq k n) [
  | inl same ↦
      let here : n < n + 1 = omega arith in
      let few : bit_at mask n < 2 = bit_at-lt mask n in
      let set : bit_at (bit_or mask (2 ^ n)) n ≡ 1 = bit_at_or mask (2 ^ n) n ∙ rw (bit_at-pow_same n) (omega arith) in
      let is : mark_of passes (n + 1) n ≡ 1 = mark_below passes (n + 1) n here ∙ ap (λ (b : Bool). if b then 1 else 0) pass in
      let P : ℕ → Type 0 = λ k. bit_at (bit_or mask (2 ^ n)) k ≡ mark_of passes (n + 1) k in
      subst P (sym same) (set ∙ sym is)
  | inr other ↦
      let kept : bit_at (bit_or mask (2 ^ n)) k ≡ bit_at mask k = bit_at_or mask (2 ^ n) k ∙ rw (bit_at-pow_other n k other) (omega arith) in
      kept ∙ marked k ∙ sym (mark_other passes n k other)
]

-- one that does not
pub none_more : (passes : ℕ → Bool) (mask n : ℕ) → ((k : ℕ) → bit_at mask k ≡ mark_of passes n k) → passes n ≡ false → (k : ℕ) → bit_at mask k ≡ mark_of passes (n + 1) k
none_more passes mask n marked pass k = elim (cases_eq k n) [
  | inl same ↦
      let here : n < n + 1 = omega arith in
      let at : n ≤ n = omega arith in
      let is : mark_of passes (n + 1) n ≡ 0 = mark_below passes (n + 1) n here ∙ ap (λ (b : Bool). if b then 1 else 0) pass in
      let P : ℕ → Type 0 = λ k. bit_at mask k ≡ mark_of passes (n + 1) k in
      subst P (sym same) (marked n ∙ mark_above passes n n at ∙ sym is)
  | inr other ↦ marked k ∙ sym (mark_other passes n k other)
]

-- The words, one after another.

pub first_word : (g : Lcg) → g ≡ generator_after 0 g
unfolding generator_after
first_word g = refl

pub next_word : (n : ℕ) (g now next : Lcg) → now ≡ generator_after n g → next ≡ next_generator now → next ≡ generator_after (n + 1) g
unfolding generator_after
next_word n g now next is step = step ∙ ap next_generator is ∙ rw add-one refl

pub word_here : (n : ℕ) (g now : Lcg) → now ≡ generator_after n g → word_of now ≡ word_at n g
unfolding word_at
word_here n g now is = ap word_of is

-- the bit of a place below 64
pub one_shifted : (n : ℕ) → n < 64 → 1 * 2 ^ n % 2 ^ 64 ≡ 2 ^ n
one_shifted n fits = let small : 1 * 2 ^ n < 2 ^ 64 = omega (arith, pow-lt fits) in mod-eq_of_lt small ∙ omega arith
