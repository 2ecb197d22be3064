-- The items that an iterator of a list gives are the list.
use Rattle.std.proofs.Common.{◌≡◌, ℕ, List, [], ◌∷◌, ◌++◌, ap, ◌∙◌, append-nil}
use Rattle.std.specs.Iterator.{Drains, Yields, YieldsFirst}

front : (s xs t : List ℕ) → Yields (YieldsFirst (λ (left : List ℕ). left)) s xs t → s ≡ xs ++ t
front s [] t h = h
front s (x ∷ xs) t h = h.1 ∙ ap (λ l. x ∷ l) (front h.0 xs t h.2)

pub drained : (s xs : List ℕ) → Drains (YieldsFirst (λ (left : List ℕ). left)) s xs → s ≡ xs
drained s xs d = front s xs d.1.0 d.1.1 ∙ ap (λ l. xs ++ l) d.1.2.0 ∙ append-nil xs
