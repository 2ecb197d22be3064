use Rattle.std.proofs.Common.{◌≡◌, ℕ, List, ◌∷◌, refl, ap₂, arith}
use Rattle.station_core.proofs.meaning.functions_are_bits.Goals as goal

onto : (x y : ℕ) (xs ys : List ℕ) → x ≡ y → xs ≡ ys → x ∷ xs ≡ y ∷ ys
onto x y xs ys e es = ap₂ (λ (z : ℕ) (zs : List ℕ). z ∷ zs) e es

pub returns-clause-bits : goal.returns-clause-bits
returns-clause-bits c e =
    onto _ _ _ _ (omega arith) (onto _ _ _ _ (omega arith) (onto _ _ _ _ (omega arith) (onto _ _ _ _ (omega arith) (onto _ _ _ _ (omega arith)
    (onto _ _ _ _ (omega arith) (onto _ _ _ _ (omega arith) (onto _ _ _ _ (omega arith) (onto _ _ _ _ (omega arith)
    (onto _ _ _ _ (omega arith) (onto _ _ _ _ (omega arith) (onto _ _ _ _ (omega arith) (onto _ _ _ _ (omega arith) refl))))))))))))
