-- Folding over one item more of a table.
use Rattle.std.proofs.Common.{◌≡◌, ℕ, ◌<◌, ◌+◌, List, length, map, take, refl}
use Rattle.std.specs.List.{fold}
use Rattle.std.specs.Prelude.{get_or}
use Rattle.std.proofs.lemmas.List.{map-append, take_more}
use Rattle.std.proofs.lemmas.List.Sums.{fold-append}

pub fold_more : {A B : Type 0} (f : B → A → B) (b : B) (xs : List A) (i : ℕ) (d : A) → i < length xs → fold f b (take (i + 1) xs) ≡ f (fold f b (take i xs)) (get_or xs i d)
fold_more f b xs i d less = rw (take_more xs i d less, fold-append) refl

pub fold_map_more : {X A B : Type 0} (f : B → A → B) (b : B) (h : X → A) (xs : List X) (i : ℕ) (d : X) → i < length xs → fold f b (map h (take (i + 1) xs)) ≡ f (fold f b (map h (take i xs))) (h (get_or xs i d))
fold_map_more f b h xs i d less = rw (take_more xs i d less, map-append, fold-append) refl
