-- The value of decimal digits, digit by digit.
use Rattle.std.proofs.Common.{◌≡◌, ℕ, ◌+◌, ◌-◌, ◌*◌, ◌<◌, ◌≤◌, ◌^◌, Fits, w32, true, ◌&&◌, List, [], ◌∷◌, length, take, get_or, refl, ap, arith}
use Rattle.std.specs.Char.{digit_value, is_ascii_digit}
use Rattle.std.specs.List.{list_all}
use Rattle.std.specs.Str.{all_ascii_digits}
use Rattle.std.specs.Str.Parse.{digits_value}
use Rattle.std.proofs.lemmas.Bool.Decides.{nat_tests}
use Rattle.std.proofs.lemmas.Int.Digits.{digits_value_more}
use Rattle.std.proofs.lemmas.Str.Parse.{IsNumeralModel, numerals_by_value, tells_all_ascii_digits, digits_value_short, digits_value-take-le, digit_at}
use Rattle.text.specs.Decimal.{is_decimal}

pub own : IsNumeralModel (λ ds. all_ascii_digits ds ≡ true) (digits_value 10)
own = numerals_by_value _ tells_all_ascii_digits

pub all_digits : (word : List ℕ) → list_all is_ascii_digit word ≡ all_ascii_digits word
all_digits [] = refl
all_digits (b ∷ bs) = ap (λ rest. is_ascii_digit b && rest) (all_digits bs)

parts : (word : List ℕ) → is_decimal word ≡ true → (length word ≤ 7) × (all_ascii_digits word ≡ true)
parts word h = grind (arith, nat_tests, all_digits word)

value_small : (word : List ℕ) (i : ℕ) → is_decimal word ≡ true → digits_value 10 (take i word) < 10000000
value_small word i h =
    let p = parts word h in
    let whole : digits_value 10 word < 10 ^ 7 = digits_value_short own word 7 p.1 p.0 in
    omega (arith, digits_value-take-le 10 word i)

pub digit_within : (word : List ℕ) (i : ℕ) → is_decimal word ≡ true → i < length word → (48 ≤ get_or word i 0) × (get_or word i 0 ≤ 57)
digit_within word i h lt = digit_at word i (own.to word (parts word h).1) lt

value_of_digit : (c : ℕ) → 48 ≤ c → c ≤ 57 → digit_value c ≡ c - 48
value_of_digit c low high = grind (arith, nat_tests)

value_more : (word : List ℕ) (i : ℕ) → is_decimal word ≡ true → i < length word → digits_value 10 (take (i + 1) word) ≡ 10 * digits_value 10 (take i word) + (get_or word i 0 - 48)
value_more word i h lt =
    let d = digit_within word i h lt in
    let e = value_of_digit (get_or word i 0) d.0 d.1 in
    omega (arith, digits_value_more 10 word i lt)

-- the value of the first digits, and one more digit
pub product_fits : (word : List ℕ) (i value : ℕ) → is_decimal word ≡ true → value ≡ digits_value 10 (take i word) → Fits w32 (10 * value)
product_fits word i value h so_far = omega (arith, value_small word i h, so_far)

pub one_more_digit : (word : List ℕ) (i value digit : ℕ) → is_decimal word ≡ true → i < length word → value ≡ digits_value 10 (take i word) → digit ≡ get_or word i 0 - 48 → 10 * value + digit ≡ digits_value 10 (take (i + 1) word)
one_more_digit word i value digit h lt so_far same = omega (arith, value_more word i h lt, so_far, same)

pub sum_fits : (word : List ℕ) (i value digit : ℕ) → is_decimal word ≡ true → i < length word → value ≡ digits_value 10 (take i word) → digit ≡ get_or word i 0 - 48 → Fits w32 (10 * value + digit)
sum_fits word i value digit h lt so_far same = omega (arith, value_small word (i + 1) h, one_more_digit word i value digit h lt so_far same)
