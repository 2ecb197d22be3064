-- Sets of blocks as numbers.
use Rattle.std.proofs.Common.{◌≡◌, ℕ, zero, suc, ◌+◌, ◌*◌, ◌/◌, ◌%◌, ◌^◌, ◌<◌, ◌==◌, Bool, List, [], ◌∷◌, refl, ap, ◌∙◌, arith}
use Rattle.std.proofs.lemmas.Nat.{pow-add}
use Rattle.std.specs.Prelude.{if◌then◌else◌}

-- the marks of so many blocks, of which a number has a bit each, from its lowest on
unfoldable pub marks_from : (count bits : ℕ) → List Bool
marks_from zero bits = []
marks_from (suc count) bits = (bits % 2 == 1) ∷ marks_from count (bits / 2)

-- those of all
abbrev pub marks_of : (bits : ℕ) → List Bool
marks_of bits = marks_from 64 bits

-- the number with these marks
unfoldable pub number_of : (marks : List Bool) → ℕ
number_of [] = 0
number_of (mark ∷ marks) = (if mark then 1 else 0) + 2 * number_of marks

-- It is the one that had them.

lowest : (bit : ℕ) → bit < 2 → (if bit == 1 then 1 else 0) ≡ bit
lowest zero h = refl
lowest (suc zero) h = refl
lowest (suc (suc bit)) h = absurd (omega (arith, h))

pub number-marks : (count bits : ℕ) → bits < 2 ^ count → number_of (marks_from count bits) ≡ bits
unfolding marks_from number_of
number-marks zero bits h = omega (arith, h)
number-marks (suc count) bits h =
    let twice : 2 ^ (count + 1) ≡ 2 * 2 ^ count = pow-add 2 count 1 ∙ omega arith in
    let next : suc count ≡ count + 1 = omega arith in
    let same : 2 ^ suc count ≡ 2 ^ (count + 1) = ap (λ (n : ℕ). 2 ^ n) next in
    let rest = number-marks count (bits / 2) (omega (arith, h, twice, same)) in
    ap (λ (bit : ℕ). bit + 2 * number_of (marks_from count (bits / 2))) (lowest (bits % 2) (omega arith))
    ∙ ap (λ (n : ℕ). bits % 2 + 2 * n) rest ∙ omega arith
