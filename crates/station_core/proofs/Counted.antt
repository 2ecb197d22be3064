-- How many slots pass a test, one by one.
use Rattle.std.proofs.Common.{◌≡◌, ℕ, ◌+◌, zero, suc, Bool, true, false, List, ◌∷◌, length, if◌then◌else◌, refl, ap, sym, ◌∙◌, arith}
use Rattle.std.specs.List.{filter, range_with_len}
use Rattle.slot_table.specs.Reading.{all_slots}
use Rattle.refresh_ring.specs.Left.{count_to}

one_of : (b : Bool) (x : ℕ) (xs : List ℕ) (count : ℕ) → count + length (if b then x ∷ xs else xs) ≡ count + (if b then 1 else 0) + length xs
one_of true x xs count = omega arith
one_of false x xs count = omega arith

counted_from : (test : ℕ → Bool) (n from : ℕ) → count_to test from + length (filter test (range_with_len (suc from) n)) ≡ count_to test (from + n)
unfolding count_to
counted_from test zero from =
    let here : from ≡ from + 0 = omega arith in
    let none : count_to test from + 0 ≡ count_to test from = omega arith in
    none ∙ ap (count_to test) here
counted_from test (suc n) from =
    let next_is : suc (suc from) ≡ suc from + 1 = omega arith in
    let last_is : suc from + n ≡ from + suc n = omega arith in
    one_of (test (suc from)) (suc from) (filter test (range_with_len (suc from + 1) n)) (count_to test from)
    ∙ ap (λ (next : ℕ). count_to test (suc from) + length (filter test (range_with_len next n))) (sym next_is)
    ∙ counted_from test n (suc from)
    ∙ ap (count_to test) last_is

pub counted : (test : ℕ → Bool) → length (filter test all_slots) ≡ count_to test 119
unfolding all_slots count_to
counted test =
    let none : count_to test 0 ≡ 0 = refl in
    let all : count_to test 0 + length (filter test all_slots) ≡ count_to test 119 = counted_from test 119 0 in
    omega (arith, none, all)
