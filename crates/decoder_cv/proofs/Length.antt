-- How long a list of variables can be.
use Rattle.std.proofs.Common.{◌≡◌, ◌+◌, ◌==◌, ◌<◌, ◌≤◌, ℕ, Bool, true, false, inl, inr, List, [], ◌∷◌, Err, cond, eqb, leb, length, map, arith, refl, sym, ◌∙◌}
use Rattle.std.specs.List.{AllByRecursion, IsDistinct, list_all, list_any}
use Rattle.std.proofs.lemmas.Bool.{and_parts, cases_Bool, cond-false, eq-eqb, eqb-false, eqb-true, leb-true, ne_eqb, or_cases}
use Rattle.std.proofs.lemmas.List.{length-map}
use Rattle.std.proofs.lemmas.List.Sums.{sum_by-cons}
use Rattle.std.proofs.lemmas.Map.Steps.{length-le_from_distinct_below}
use Rattle.decoder_cv.specs.declared.cv_fault.CvFault.TheVariants.{BadList}
use Rattle.decoder_cv.specs.declared.cv_pair.CvPair.{CvPair}
use Rattle.decoder_cv.specs.Listed.{are_variables, is_number, is_of, listed, times}
use Rattle.decoder_cv.proofs.Pairs.{is_right, none_here, once}

abbrev numbers : List CvPair → List ℕ
numbers pairs = map (λ pair. pair.number) pairs

times-cons : (number : ℕ) (pair : CvPair) (pairs : List CvPair) → times number (pair ∷ pairs) ≡ cond (is_of number pair) 1 0 + times number pairs
times-cons number pair pairs = sum_by-cons (λ p. cond (is_of number p) 1 0) pair pairs

not_named : (number : ℕ) (pairs : List CvPair) → times number pairs ≡ 0 → AllByRecursion (λ other. eqb number other ≡ false) (numbers pairs)
not_named number [] none = tt
not_named number (pair ∷ pairs) none =
    let (here, rest) = none_here (is_of number pair) (times number pairs) (sym (times-cons number pair pairs) ∙ none) in
    (ne_eqb number pair.number (λ e. eqb-false pair.number number here (sym e)), not_named number pairs rest)

only_here : (b : Bool) (n : ℕ) → b ≡ true → cond b 1 0 + n ≤ 1 → n ≡ 0
only_here true n e most = omega (arith, most)
only_here false n e most = cc

distinct : (pairs : List CvPair) → ((number : ℕ) → times number pairs ≤ 1) → IsDistinct eqb (numbers pairs)
unfolding IsDistinct
distinct [] most = tt
distinct (pair ∷ pairs) most =
    let each : (number : ℕ) → cond (is_of number pair) 1 0 + times number pairs ≤ 1 = λ number. rw (times-cons number pair pairs) at (most number) in (
      not_named pair.number pairs (only_here (is_of pair.number pair) (times pair.number pairs) (eq-eqb pair.number pair.number refl) (each pair.number)),
      distinct pairs (λ number. omega (arith, each number)),
    )

-- 0 is no variable's number, and so 1,024 numbers below 1,025 are left

legal : (whole part : List CvPair) (pair : CvPair) → list_all (is_right whole) (pair ∷ part) ≡ true → (0 < pair.number) × (pair.number < 1025)
legal whole part pair right =
    let (here, rest) = and_parts (is_right whole pair) (list_all (is_right whole) part) right in
    let (number, single) = and_parts (is_number pair.number) (times pair.number whole == 1) here in
    let (least, most) = and_parts (leb 1 pair.number) (leb pair.number 1024) number in
    (omega (arith, leb-true 1 pair.number least), omega (arith, leb-true pair.number 1024 most))

rest_right : (whole part : List CvPair) (pair : CvPair) → list_all (is_right whole) (pair ∷ part) ≡ true → list_all (is_right whole) part ≡ true
rest_right whole part pair right = (and_parts (is_right whole pair) (list_all (is_right whole) part) right).1

never_0 : (whole part : List CvPair) → list_all (is_right whole) part ≡ true → AllByRecursion (λ other. eqb 0 other ≡ false) (numbers part)
never_0 whole [] right = tt
never_0 whole (pair ∷ part) right =
    (ne_eqb 0 pair.number (λ e. omega (arith, (legal whole part pair right).0)), never_0 whole part (rest_right whole part pair right))

below : (whole part : List CvPair) (q : ℕ) → list_all (is_right whole) part ≡ true → list_any (eqb q) (numbers part) ≡ true → q < 1025
below whole [] q right named = cc
below whole (pair ∷ part) q right named =
    elim (or_cases (eqb q pair.number) (list_any (eqb q) (numbers part)) named) [
      | inl e ↦ omega (arith, (legal whole part pair right).1, eqb-true q pair.number e)
      | inr rest ↦ below whole part q (rest_right whole part pair right) rest
    ]

below_or_0 : (pairs : List CvPair) (q : ℕ) → are_variables pairs ≡ true → list_any (eqb q) (0 ∷ numbers pairs) ≡ true → q < 1025
below_or_0 pairs q right named =
    elim (or_cases (eqb q 0) (list_any (eqb q) (numbers pairs)) named) [
      | inl e ↦ omega (arith, eqb-true q 0 e)
      | inr rest ↦ below pairs pairs q right rest
    ]

at_most_once : (pairs : List CvPair) (number : ℕ) → are_variables pairs ≡ true → times number pairs ≤ 1
at_most_once pairs number right = elim (once pairs pairs number right) [ inl e ↦ omega (arith, e) | inr e ↦ omega (arith, e) ]

length-le : (pairs : List CvPair) → are_variables pairs ≡ true → length pairs ≤ 1024
unfolding IsDistinct
length-le pairs right =
    let all : length (0 ∷ numbers pairs) ≤ 1025
    = length-le_from_distinct_below (0 ∷ numbers pairs) 1025 (never_0 pairs pairs right, distinct pairs (λ number. at_most_once pairs number right)) (λ q named. below_or_0 pairs q right named) in
    omega (arith, all, length-map pairs (λ pair. pair.number))

pub listed-long : (pairs : List CvPair) → 1024 < length pairs → listed pairs ≡ Err BadList
listed-long pairs long =
    elim (cases_Bool (are_variables pairs)) [
      | inl right ↦ absurd (omega (arith, long, length-le pairs right))
      | inr wrong ↦ cond-false (are_variables pairs) _ _ wrong
    ]
