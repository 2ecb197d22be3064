-- Lists of pairs: that their order is free, and that pairs of other numbers have no effect.
use Rattle.std.proofs.Common.{◌≡◌, ◌+◌, ◌==◌, ℕ, Bool, true, false, ◌&&◌, ◌||◌, ◌⊎◌, inl, inr, List, [], ◌∷◌, Option, Some, None, Result, Err, cond, eqb, if◌then◌else◌, arith, refl, ap, ap₂, sym, ◌∙◌}
use Rattle.std.specs.Prelude.{IsPermutation, IsTrue, option_map}
use Rattle.std.specs.List.{count_by, filter, find, list_all, sum_by}
use Rattle.std.proofs.Math.Path.{fun_ext}
use Rattle.std.proofs.lemmas.Bool.{and_from, and_parts, both_ways, cases_Bool, cond_both, cond-false, eq-eqb, eqb-false, eqb-true, ne_eqb}
use Rattle.std.proofs.lemmas.List.Folds.{sum_by-zero}
use Rattle.std.proofs.lemmas.List.Sorted.{sum_by-IsPermutation}
use Rattle.std.proofs.lemmas.List.Sums.{sum_by-cons}
use Rattle.decoder_cv.specs.Settings.{Settings}
use Rattle.decoder_cv.specs.declared.cv_fault.CvFault.{CvFault}
use Rattle.decoder_cv.specs.declared.cv_fault.CvFault.TheVariants.{BadList}
use Rattle.decoder_cv.specs.declared.cv_pair.CvPair.{CvPair}
use Rattle.decoder_cv.specs.Listed.{are_variables, is_number, is_of, is_read, listed, settings_with, times, value_in}

-- lists in general

abbrev fails : {X : Type 0} → (X → Bool) → X → ℕ
fails p x = cond (p x) 0 1

passes : (b : Bool) → eqb (cond b 0 1) 0 ≡ b
passes true = refl
passes false = refl

list_all-IsPermutation : {X : Type 0} (p : X → Bool) (xs ys : List X) → IsPermutation xs ys → list_all p ys ≡ list_all p xs
list_all-IsPermutation {X} p xs ys perm =
    let same : (zs : List X) → eqb (sum_by (fails p) zs) 0 ≡ list_all p zs = λ zs. sum_by-zero (fails p) zs ∙ ap (λ q. list_all q zs) (fun_ext (λ x. passes (p x))) in
    sym (same ys) ∙ ap (λ n. eqb n 0) (sum_by-IsPermutation (fails p) xs ys perm) ∙ same xs

-- the sum of f over those that pass: f of the one that passes, where it is one
abbrev sum_of : {X : Type 0} → (X → Bool) → (X → ℕ) → List X → ℕ
sum_of p f xs = sum_by (λ x. cond (p x) (f x) 0) xs

none_found : {X : Type 0} (f : X → ℕ) (x : X) (b : Bool) (n : ℕ) (o : Option X) → cond b 1 0 + n ≡ 0 → (n ≡ 0 → option_map f o ≡ None) → option_map f (cond b (Some x) o) ≡ None
none_found f x true n o e next = absurd (omega (arith, e))
none_found f x false n o e next = next (omega (arith, e))

found_none : {X : Type 0} (p : X → Bool) (f : X → ℕ) (xs : List X) → count_by p xs ≡ 0 → option_map f (find p xs) ≡ None
found_none p f [] e = refl
found_none p f (x ∷ xs) e = none_found f x (p x) (count_by p xs) (find p xs) (sym (sum_by-cons (λ y. cond (p y) 1 0) x xs) ∙ e) (found_none p f xs)

none_added : (b : Bool) (n v s : ℕ) → cond b 1 0 + n ≡ 0 → (n ≡ 0 → s ≡ 0) → cond b v 0 + s ≡ 0
none_added true n v s e next = omega (arith, e)
none_added false n v s e next = let zero : s ≡ 0 = next (omega (arith, e)) in omega (arith, zero)

sum_none : {X : Type 0} (p : X → Bool) (f : X → ℕ) (xs : List X) → count_by p xs ≡ 0 → sum_of p f xs ≡ 0
sum_none p f [] e = refl
sum_none p f (x ∷ xs) e =
    sum_by-cons (λ y. cond (p y) (f y) 0) x xs
    ∙ none_added (p x) (count_by p xs) (f x) (sum_of p f xs) (sym (sum_by-cons (λ y. cond (p y) 1 0) x xs) ∙ e) (sum_none p f xs)

one_found : {X : Type 0} (f : X → ℕ) (x : X) (b : Bool) (n s : ℕ) (o : Option X) → cond b 1 0 + n ≡ 1 → (n ≡ 0 → s ≡ 0) → (n ≡ 1 → option_map f o ≡ Some s) → option_map f (cond b (Some x) o) ≡ Some (cond b (f x) 0 + s)
one_found f x true n s o e none next = let zero : s ≡ 0 = none (omega (arith, e)) in ap Some (omega (arith, zero))
one_found f x false n s o e none next = let same : s ≡ 0 + s = omega arith in next (omega (arith, e)) ∙ ap Some same

found_one : {X : Type 0} (p : X → Bool) (f : X → ℕ) (xs : List X) → count_by p xs ≡ 1 → option_map f (find p xs) ≡ Some (sum_of p f xs)
found_one p f [] e = absurd (omega (arith, e))
found_one p f (x ∷ xs) e =
    one_found f x (p x) (count_by p xs) (sum_of p f xs) (find p xs) (sym (sum_by-cons (λ y. cond (p y) 1 0) x xs) ∙ e) (sum_none p f xs) (found_one p f xs)
    ∙ ap Some (sym (sum_by-cons (λ y. cond (p y) (f y) 0) x xs))

not_passed : (a b : Bool) → (a ≡ true → b ≡ true) → b ≡ false → a ≡ false
not_passed true b within e = absurd (both_ways b e (within refl))
not_passed false b within e = refl

count_skips : {X : Type 0} (q : X → Bool) (x : X) (xs : List X) → q x ≡ false → count_by q (x ∷ xs) ≡ count_by q xs
count_skips q x xs e = sum_by-cons (λ y. cond (q y) 1 0) x xs ∙ ap (λ b. cond b 1 0 + count_by q xs) e ∙ omega arith

count_by-filter : {X : Type 0} (q r : X → Bool) → ((x : X) → q x ≡ true → r x ≡ true) → (xs : List X) → count_by q (filter r xs) ≡ count_by q xs
count_by-filter q r within [] = refl
count_by-filter q r within (x ∷ xs) =
    cond_both (r x) (x ∷ filter r xs) (filter r xs) (λ ys. count_by q ys ≡ count_by q (x ∷ xs))
    (λ e. sum_by-cons (λ y. cond (q y) 1 0) x (filter r xs) ∙ ap (λ k. cond (q x) 1 0 + k) (count_by-filter q r within xs) ∙ sym (sum_by-cons (λ y. cond (q y) 1 0) x xs))
    (λ e. count_by-filter q r within xs ∙ sym (count_skips q x xs (not_passed (q x) (r x) (within x) e)))

find-filter : {X : Type 0} (q r : X → Bool) → ((x : X) → q x ≡ true → r x ≡ true) → (xs : List X) → find q (filter r xs) ≡ find q xs
find-filter q r within [] = refl
find-filter q r within (x ∷ xs) =
    cond_both (r x) (x ∷ filter r xs) (filter r xs) (λ ys. find q ys ≡ cond (q x) (Some x) (find q xs))
    (λ e. ap (λ o. cond (q x) (Some x) o) (find-filter q r within xs))
    (λ e. find-filter q r within xs ∙ sym (cond-false (q x) (Some x) (find q xs) (not_passed (q x) (r x) (within x) e)))

-- pairs

abbrev pub is_right : List CvPair → CvPair → Bool
is_right pairs pair = is_number pair.number && times pair.number pairs == 1

with_same : (a b c d i j k l : Option ℕ) → a ≡ i → b ≡ j → c ≡ k → d ≡ l → settings_with a b c d ≡ settings_with i j k l
with_same a b c d i j k l ea eb ec ed = cc

-- the answer where the numbers are right
abbrev answer : List CvPair → Result Settings CvFault
answer pairs = settings_with (value_in 1 pairs) (value_in 17 pairs) (value_in 18 pairs) (value_in 29 pairs)

same_answers : (a b : Bool) (s t : Result Settings CvFault) → a ≡ b → (b ≡ true → s ≡ t) → (if a then s else Err BadList) ≡ (if b then t else Err BadList)
same_answers a true s t e same = rw e (same refl)
same_answers a false s t e same = rw e refl

-- the order of the pairs

pub once : (whole part : List CvPair) (number : ℕ) → list_all (is_right whole) part ≡ true → (times number part ≡ 0) ⊎ (times number whole ≡ 1)
once whole [] number right = inl refl
once whole (pair ∷ part) number right =
    let (here, rest) = and_parts (is_right whole pair) (list_all (is_right whole) part) right in
    let (legal, single) = and_parts (is_number pair.number) (times pair.number whole == 1) here in
    elim (cases_Bool (is_of number pair)) [
      | inl e ↦ inr (ap (λ n. times n whole) (sym (eqb-true pair.number number e)) ∙ eqb-true (times pair.number whole) 1 single)
      | inr e ↦ elim (once whole part number rest) [ inl none ↦ inl (count_skips (is_of number) pair part e ∙ none) | inr one ↦ inr one ]
    ]

value_in-IsPermutation : (pairs others : List CvPair) (number : ℕ) → IsPermutation pairs others → are_variables pairs ≡ true → value_in number others ≡ value_in number pairs
value_in-IsPermutation pairs others number perm right =
    let counts : times number others ≡ times number pairs = sum_by-IsPermutation (λ p. cond (is_of number p) 1 0) pairs others perm in
    let values : sum_of (is_of number) (λ p. p.value) others ≡ sum_of (is_of number) (λ p. p.value) pairs = sum_by-IsPermutation (λ p. cond (is_of number p) p.value 0) pairs others perm in
    elim (once pairs pairs number right) [
      | inl none ↦ found_none (is_of number) (λ p. p.value) others (counts ∙ none) ∙ sym (found_none (is_of number) (λ p. p.value) pairs none)
      | inr one ↦ found_one (is_of number) (λ p. p.value) others (counts ∙ one) ∙ ap Some values ∙ sym (found_one (is_of number) (λ p. p.value) pairs one)
    ]

are_variables-IsPermutation : (pairs others : List CvPair) → IsPermutation pairs others → are_variables others ≡ are_variables pairs
are_variables-IsPermutation pairs others perm =
    let counts : (pair : CvPair) → is_right others pair ≡ is_right pairs pair =
    λ pair. ap (λ k. is_number pair.number && k == 1) (sum_by-IsPermutation (λ p. cond (is_of pair.number p) 1 0) pairs others perm) in
    ap (λ q. list_all q others) (fun_ext counts) ∙ list_all-IsPermutation (is_right pairs) pairs others perm

pub listed-IsPermutation : (pairs others : List CvPair) → IsPermutation pairs others → listed others ≡ listed pairs
listed-IsPermutation pairs others perm =
    same_answers (are_variables others) (are_variables pairs) (answer others) (answer pairs) (are_variables-IsPermutation pairs others perm)
    (λ right. with_same _ _ _ _ _ _ _ _ (value_in-IsPermutation pairs others 1 perm right) (value_in-IsPermutation pairs others 17 perm right) (value_in-IsPermutation pairs others 18 perm right) (value_in-IsPermutation pairs others 29 perm right))

-- pairs of other numbers

abbrev reads : ℕ → Bool
reads n = n == 1 || n == 17 || n == 18 || n == 29

reads_of : (n : ℕ) → reads n ≡ true → (pair : CvPair) → is_of n pair ≡ true → is_read pair ≡ true
reads_of n read pair e = ap reads (eqb-true pair.number n e) ∙ read

kept : (whole part : List CvPair) → list_all (is_right whole) part ≡ true → list_all (is_right (filter is_read whole)) (filter is_read part) ≡ true
kept whole [] right = refl
kept whole (pair ∷ part) right =
    let (here, rest) = and_parts (is_right whole pair) (list_all (is_right whole) part) right in
    cond_both (is_read pair) (pair ∷ filter is_read part) (filter is_read part) (λ ys. list_all (is_right (filter is_read whole)) ys ≡ true)
    (λ e. and_from _ _ (ap (λ k. is_number pair.number && k == 1) (count_by-filter (is_of pair.number) is_read (reads_of pair.number e) whole) ∙ here) (kept whole part rest))
    (λ e. kept whole part rest)

value_in-filter : (pairs : List CvPair) (number : ℕ) → reads number ≡ true → value_in number (filter is_read pairs) ≡ value_in number pairs
value_in-filter pairs number read = ap (λ o. option_map (λ p. p.value) o) (find-filter (is_of number) is_read (reads_of number read) pairs)

pub listed-filter : (pairs : List CvPair) → IsTrue (are_variables pairs) → listed (filter is_read pairs) ≡ listed pairs
listed-filter pairs right =
    same_answers (are_variables (filter is_read pairs)) (are_variables pairs) (answer (filter is_read pairs)) (answer pairs) (kept pairs pairs right ∙ sym right)
    (λ _. with_same _ _ _ _ _ _ _ _ (value_in-filter pairs 1 refl) (value_in-filter pairs 17 refl) (value_in-filter pairs 18 refl) (value_in-filter pairs 29 refl))

pub none_here : (b : Bool) (n : ℕ) → cond b 1 0 + n ≡ 0 → (b ≡ false) × (n ≡ 0)
none_here true n e = absurd (omega (arith, e))
none_here false n e = (refl, omega (arith, e))

right_after : (pair : CvPair) (pairs part : List CvPair) → times pair.number part ≡ 0 → list_all (is_right (pair ∷ pairs)) part ≡ list_all (is_right pairs) part
right_after pair pairs [] none = refl
right_after pair pairs (other ∷ part) none =
    let (here, rest) = none_here (is_of pair.number other) (times pair.number part) (sym (sum_by-cons (λ p. cond (is_of pair.number p) 1 0) other part) ∙ none) in
    let differs : is_of other.number pair ≡ false = ne_eqb pair.number other.number (λ e. eqb-false other.number pair.number here (sym e)) in
    ap₂ (λ k b. (is_number other.number && k == 1) && b) (count_skips (is_of other.number) pair pairs differs) (right_after pair pairs part rest)

value_in-cons : (pair : CvPair) (pairs : List CvPair) (number : ℕ) → reads number ≡ true → is_read pair ≡ false → value_in number (pair ∷ pairs) ≡ value_in number pairs
value_in-cons pair pairs number read e =
    ap (λ o. option_map (λ p. p.value) o) (cond-false (is_of number pair) (Some pair) (find (is_of number) pairs) (not_passed (is_of number pair) (is_read pair) (reads_of number read pair) e))

pub listed-cons : (pair : CvPair) (pairs : List CvPair) → is_read pair ≡ false → IsTrue (is_number pair.number) → times pair.number pairs ≡ 0 → listed (pair ∷ pairs) ≡ listed pairs
listed-cons pair pairs e legal none =
    let counts : times pair.number (pair ∷ pairs) ≡ 1 = sum_by-cons (λ p. cond (is_of pair.number p) 1 0) pair pairs ∙ ap₂ (λ b k. cond b 1 0 + k) (eq-eqb pair.number pair.number refl) none in
    let here : is_right (pair ∷ pairs) pair ≡ true = and_from _ _ legal (eq-eqb _ 1 counts) in
    let right : are_variables (pair ∷ pairs) ≡ are_variables pairs = ap₂ (λ a b. a && b) here (right_after pair pairs pairs none) in
    same_answers (are_variables (pair ∷ pairs)) (are_variables pairs) (answer (pair ∷ pairs)) (answer pairs) right
    (λ _. with_same _ _ _ _ _ _ _ _ (value_in-cons pair pairs 1 refl e) (value_in-cons pair pairs 17 refl e) (value_in-cons pair pairs 18 refl e) (value_in-cons pair pairs 29 refl e))
