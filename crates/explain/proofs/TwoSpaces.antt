-- The text before two spaces, byte by byte.
use Rattle.std.proofs.Common.{◌≡◌, ◌<◌, ◌≤◌, ◌==◌, ◌∙◌, ℕ, zero, suc, true, false, List, [], ◌∷◌}
use Rattle.std.proofs.Common.{◌++◌, length, take, drop, refl, ap, ap₂, append-nil, arith}
use Rattle.std.proofs.Common.{drop_of_length-le}
use Rattle.std.proofs.lemmas.List.{take_all}
use Rattle.std.specs.Prelude.{codes}
use Rattle.std.specs.List.{starts_with}
use Rattle.explain.specs.HexText.{before_two_spaces}

-- two spaces are here
pub stops : (text : List ℕ) (i : ℕ) → i < length text
    → starts_with ◌==◌ (drop i text) (codes "  ") ≡ true → before_two_spaces (drop i text) ≡ []
unfolding before_two_spaces
stops [] i below is = absurd (omega (arith, below))
stops (b ∷ text) zero below is = rw is refl
stops (b ∷ text) (suc i) below is = stops text i (omega (arith, below)) is

-- they are not
pub goes_on : (text : List ℕ) (i : ℕ) → i < length text
    → starts_with ◌==◌ (drop i text) (codes "  ") ≡ false
    → take (suc i) text ++ before_two_spaces (drop (suc i) text)
    ≡ take i text ++ before_two_spaces (drop i text)
unfolding before_two_spaces
goes_on [] i below is = absurd (omega (arith, below))
goes_on (b ∷ text) zero below is = rw is refl
goes_on (b ∷ text) (suc i) below is =
    ap (λ (front : List ℕ). b ∷ front) (goes_on text i (omega (arith, below)) is)

-- they are nowhere
pub ends : (text : List ℕ) (i : ℕ) → length text ≤ i
    → take i text ++ before_two_spaces (drop i text) ≡ text
unfolding before_two_spaces
ends text i over =
    ap₂ (λ (front back : List ℕ). front ++ before_two_spaces back)
    (take_all i text over) (drop_of_length-le text over)
    ∙ append-nil text
