-- A list is its elements, place by place.
use Rattle.std.proofs.Common.{◌≡◌, ℕ, ◌+◌, List, [], ◌∷◌, length, drop, get_or, suc, zero, ap, ◌∙◌, arith}
use Rattle.std.proofs.lemmas.List.{drop_more, drop_all}

-- so many elements, from this place on
abbrev pub gets_from : ℕ → ℕ → List ℕ → List ℕ
gets_from k zero m = []
gets_from k (suc n) m = get_or m k 0 ∷ gets_from (k + 1) n m

pub gets-drop : (n k : ℕ) (m : List ℕ) → length m ≡ k + n → drop k m ≡ gets_from k n m
gets-drop zero k m e = drop_all k m (omega arith)
gets-drop (suc n) k m e = drop_more m k 0 (omega arith) ∙ ap (λ (xs : List ℕ). get_or m k 0 ∷ xs) (gets-drop n (k + 1) m (omega arith))

-- the whole list
pub gets-all : (n : ℕ) (m : List ℕ) → length m ≡ n → m ≡ gets_from 0 n m
gets-all n m e = gets-drop n 0 m (omega arith)
