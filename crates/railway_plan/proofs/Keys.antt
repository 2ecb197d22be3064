-- The first key of a table that is none of those known, as its map lists them and as its members do.
use Rattle.std.proofs.Common.{◌≡◌, ◌∙◌, ℕ, ◌||◌, Bool, true, false, not, List, [], ◌∷◌, map, Option, Some, option_map, String, Global, Bor, string_bytes, cond, refl, ap}
use Rattle.std.specs.Prelude.{find}
use Rattle.std.specs.List.{list_any}
use Rattle.std.specs.Map.{keys_of}
use Rattle.std.specs.Str.{bytes_eq}
use Rattle.toml.specs.declared.value.Value.{Value}
use Rattle.toml.specs.View.{members_view}
use Rattle.railway_plan.specs.Details.{unknown_key}

any_word : (known : List (Bor (List ℕ))) (key : List ℕ) → list_any (λ word. bytes_eq word.now key) known ≡ list_any (λ word. bytes_eq word key) (map (λ word. word.now) known)
any_word [] key = refl
any_word (w ∷ ws) key = ap (λ r. bytes_eq w.now key || r) (any_word ws key)

abbrev is_known : List (Bor (List ℕ)) → String Global → Bool
is_known known key = list_any (λ word. bytes_eq word.now (string_bytes key)) known

step : (known : Bool) (key : String Global) (rest : Option (String Global)) (other : Option (List ℕ)) → option_map string_bytes rest ≡ other
    → option_map string_bytes (cond (not known) (Some key) rest) ≡ cond known other (Some (string_bytes key))
step true key rest other e = e
step false key rest other e = refl

pub first_unknown : (known : List (Bor (List ℕ))) (es : List (String Global × Value)) → option_map string_bytes (find (λ key. not (is_known known key)) (keys_of es)) ≡ unknown_key (map (λ word. word.now) known) (members_view es)
first_unknown known [] = refl
first_unknown known (e ∷ es) =
    step (is_known known e.0) e.0 (find (λ key. not (is_known known key)) (keys_of es)) (unknown_key (map (λ word. word.now) known) (members_view es)) (first_unknown known es)
    ∙ ap (λ b. cond b (unknown_key (map (λ word. word.now) known) (members_view es)) (Some (string_bytes e.0))) (any_word known (string_bytes e.0))
