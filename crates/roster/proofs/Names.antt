-- The names of a roster as it grows.
use Rattle.std.proofs.Common.{◌≡◌, ℕ, not, ◌||◌, List, [], ◌∷◌, ◌++◌, map, refl, ap, ◌∙◌}
use Rattle.std.specs.Cmp.Lexicographic.{nat_list_eq_equiv}
use Rattle.std.specs.List.{IsDistinct, list_any}
use Rattle.std.specs.Prelude.{IsTrue}
use Rattle.std.specs.Str.{bytes_eq}
use Rattle.std.proofs.lemmas.Bool.{and_parts, not-true}
use Rattle.std.proofs.lemmas.List.{map-append}
use Rattle.std.proofs.lemmas.List.Elements.{All-append, All-cons, All-nil}
use Rattle.std.proofs.lemmas.Map.Keys.{IsDistinct-push}
use Rattle.roster.specs.Entry.{Entry, AreNamed, IsNamed, is_free, is_name, is_taken, name_of}

taken_names : (entries : List Entry) (name : List ℕ) → list_any (bytes_eq name) (map name_of entries) ≡ is_taken entries name
taken_names [] name = refl
taken_names (e ∷ es) name = ap (λ r. bytes_eq name e.name || r) (taken_names es name)

pub named_nil : AreNamed []
unfolding IsDistinct
named_nil = record { named = All-nil IsNamed; distinct = tt }

pub named_push : (entries : List Entry) (entry : Entry) → AreNamed entries → IsTrue (is_free entries entry.name) → AreNamed (entries ++ entry ∷ [])
named_push entries entry names free =
    let (named, untaken) = and_parts (is_name entry.name) (not (is_taken entries entry.name)) free in
    record {
      named = All-append IsNamed entries (entry ∷ []) names.named (All-cons IsNamed entry [] named (All-nil IsNamed));
      distinct = rw (map-append name_of entries (entry ∷ [])) (IsDistinct-push nat_list_eq_equiv (map name_of entries) entry.name names.distinct (taken_names entries entry.name ∙ not-true _ untaken));
    }
