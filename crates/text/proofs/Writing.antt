-- Lengths and joins of written numbers.
use Rattle.std.proofs.Common.{◌≡◌, ℕ, ◌<◌, ◌≤◌, ◌+◌, ◌/◌, ◌%◌, ◌^◌, [], ◌∷◌, ◌++◌, length, ap, ap₂, append_assoc, ◌∙◌, arith, length-append}
use Rattle.std.specs.Fmt.{decimal}
use Rattle.std.proofs.lemmas.Fmt.{decimal_step, decimal_digit}

-- the last two digits of a number below 100, and of any other
pub two_digits : (n : ℕ) → 10 ≤ n → n < 100 → decimal n ≡ (48 + n / 10) ∷ (48 + n % 10) ∷ []
two_digits n some few = decimal_step n some (omega arith) ∙ ap (λ bs. bs ++ (48 + n % 10) ∷ []) (decimal_digit (n / 10) (omega arith))

pub two_more_digits : (n : ℕ) → 100 ≤ n → n < 2 ^ 64 → decimal n ≡ decimal (n / 100) ++ (48 + n % 100 / 10) ∷ (48 + n % 100 % 10) ∷ []
two_more_digits n many fits =
    let tens : n / 10 % 10 ≡ n % 100 / 10 = omega arith in
    let ones : n % 10 ≡ n % 100 % 10 = omega arith in
    let hundreds : n / 10 / 10 ≡ n / 100 = omega arith in
    let front : decimal (n / 10) ≡ decimal (n / 100) ++ (48 + n % 100 / 10) ∷ [] =
    decimal_step (n / 10) (omega arith) (omega arith) ∙ ap₂ (λ h t. decimal h ++ (48 + t) ∷ []) hundreds tens in
    decimal_step n (omega arith) fits ∙ ap₂ (λ bs d. bs ++ (48 + d) ∷ []) front ones ∙ append_assoc (decimal (n / 100)) ((48 + n % 100 / 10) ∷ []) ((48 + n % 100 % 10) ∷ [])

pub length-decimal_more : (n : ℕ) → 100 ≤ n → n < 2 ^ 64 → length (decimal n) ≡ length (decimal (n / 100)) + 2
length-decimal_more n many fits = ap length (two_more_digits n many fits) ∙ length-append (decimal (n / 100)) _
