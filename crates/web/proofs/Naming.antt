-- A search through names, one after another.
use Rattle.std.proofs.Common.{◌≡◌, ◌<◌, ◌≤◌, ◌+◌, ◌||◌, ◌∙◌, ℕ, zero, suc, Bool, true, false, List, [], ◌∷◌, length, drop, drop_of_length-le, get_or, refl, ap, sym, arith}
use Rattle.std.specs.List.{list_any}

-- the first of the rest, and then the others
first_of_rest : {A : Type 0} (f : A → Bool) (xs : List A) (i : ℕ) (x : A) → i < length xs → list_any f (drop i xs) ≡ (f (get_or xs i x) || list_any f (drop (suc i) xs))
first_of_rest f [] i x below = absurd (omega (arith, below))
first_of_rest f (y ∷ xs) zero x below = refl
first_of_rest f (y ∷ xs) (suc i) x below = first_of_rest f xs i x (omega (arith, below))

pub any_found : {A : Type 0} (f : A → Bool) (xs : List A) (i : ℕ) (x : A) → i < length xs → f (get_or xs i x) ≡ true → list_any f (drop i xs) ≡ true
any_found f xs i x below is = first_of_rest f xs i x below ∙ ap (λ (b : Bool). b || list_any f (drop (suc i) xs)) is

pub any_more : {A : Type 0} (f : A → Bool) (xs : List A) (i : ℕ) (x : A) → i < length xs → f (get_or xs i x) ≡ false → list_any f (drop (i + 1) xs) ≡ list_any f (drop i xs)
any_more f xs i x below is =
    let next : i + 1 ≡ suc i = omega arith in
    ap (λ (n : ℕ). list_any f (drop n xs)) next ∙ sym (first_of_rest f xs i x below ∙ ap (λ (b : Bool). b || list_any f (drop (suc i) xs)) is)

pub any_none : {A : Type 0} (f : A → Bool) (xs : List A) (i : ℕ) → length xs ≤ i → list_any f (drop i xs) ≡ false
any_none f xs i over = ap (list_any f) (drop_of_length-le xs over)
