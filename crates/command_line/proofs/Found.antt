-- The results of clap's getters, by what its matches hold.
use Rattle.std.specs.Prelude.{◌≡◌, ℕ, List, refl, option_map, MatchOption, Option, None, Some, Result, Ok, Err}
use Rattle.clap.specs.declared.parser.matches.Found.{Found}
use Rattle.clap.specs.Words.{ReadsOne, Text, all_of, first_of, first_value, matched_of, raw_values, rows_of}
use Rattle.clap.proofs.WalkLemmas.{first_value-rows, raw_values-rows}
use Rattle.command_line.specs.Values.{HasNone}

pub first_in_rows : (found : Found) (id : Text) → first_value found id ≡ first_of id (rows_of found)
first_in_rows = first_value-rows

pub all_in_rows : (found : Found) (id : Text) → option_map raw_values (matched_of found id) ≡ all_of id (rows_of found)
all_in_rows = raw_values-rows

-- the result of a getter for a text, by cases
pub read_one : {T E : Type 0} (gives : List ℕ → Result T E → Type 0) (Holds : Option Text → T → Type 0) (o : Option Text) (r : Option T)
    → (o ≡ None → r ≡ None) → ((t : Text) → o ≡ Some t → ReadsOne gives t r)
    → ((t : Text) (v : T) → gives t (Ok v) → Holds (Some t) v) → ((t : Text) (e : E) → gives t (Err e) → HasNone (Holds (Some t))) → HasNone (Holds None)
    → MatchOption r (HasNone (Holds o)) (Holds o)
read_one gives Holds None None none some ok err bare = bare
read_one gives Holds (Some t) None none some ok err bare = let read = some t refl in err t read.0 read.1
read_one gives Holds None (Some v) none some ok err bare = let bad : Some v ≡ None = none refl in cc
read_one gives Holds (Some t) (Some v) none some ok err bare = ok t v (some t refl)
