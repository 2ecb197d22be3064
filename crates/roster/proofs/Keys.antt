-- The keys of a table, as its map lists them and as its members do, and the members of an array.
use Rattle.std.proofs.Common.{◌≡◌, ℕ, ◌||◌, ◌&&◌, List, [], ◌∷◌, map, String, Global, Bor, string_bytes, length, arith, refl, ap, ap₂}
use Rattle.std.specs.List.{list_all, list_any}
use Rattle.std.specs.Map.{keys_of}
use Rattle.std.specs.Str.{bytes_eq}
use Rattle.toml.specs.declared.value.Value.{Value}
use Rattle.toml.specs.View.{items_view, members_view}
use Rattle.roster.specs.Toml.{items_len, knows_only}

any_word : (known : List (Bor (List ℕ))) (key : List ℕ) → list_any (λ word. bytes_eq word.now key) known ≡ list_any (λ word. bytes_eq word key) (map (λ word. word.now) known)
any_word [] key = refl
any_word (w ∷ ws) key = ap (λ r. bytes_eq w.now key || r) (any_word ws key)

pub knows_only-keys : (known : List (Bor (List ℕ))) (es : List (String Global × Value)) → list_all (λ key. list_any (λ word. bytes_eq word.now (string_bytes key)) known) (keys_of es) ≡ knows_only (map (λ word. word.now) known) (members_view es)
knows_only-keys known [] = refl
knows_only-keys known (e ∷ es) = ap₂ (λ a b. a && b) (any_word known (string_bytes e.0)) (knows_only-keys known es)

pub items_len_view : (vs : List Value) → items_len (items_view vs) ≡ length vs
items_len_view [] = refl
items_len_view (v ∷ vs) = omega (arith, items_len_view vs)
