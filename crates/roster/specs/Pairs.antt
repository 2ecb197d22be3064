-- The key `cvs` of a locomotive in a roster of version 2: variables with their values.
use Rattle.std.specs.Prelude.{ℕ, ℤ, pos, negsuc, nat_lt, Bool, false, if◌then◌else◌, List, [], ◌∷◌, ◌++◌, ◌+◌, ◌&&◌, nat_le, length, map, Option, Some, None, is_some, option_and_then, Result, Ok, Err}
use Rattle.std.specs.List.{filter_map, list_all}
use Rattle.toml.specs.Data.{Data, Items, no_items, item, as_array, as_integer}
use Rattle.decoder_cv.specs.declared.cv_pair.CvPair.{CvPair}
use Rattle.roster.specs.declared.fault.RosterFaultKind.{RosterFaultKind}
use Rattle.roster.specs.declared.fault.RosterFaultKind.TheVariants.{BadShape}
use Rattle.roster.specs.declared.pair.Pair.{Pair}
use Rattle.roster.specs.Steps.{◌>>=◌, or_fault}

-- the members of an array
abbrev pub values_in : Items → List Data
values_in no_items = []
values_in (item value items) = value ∷ values_in items

-- A pair is an array of two integers, whatever they are: the number of a variable and its value.

abbrev pub of_two : Option ℤ → Option ℤ → Option Pair
of_two None value = None
of_two (Some number) None = None
of_two (Some number) (Some value) = Some (record { number = number; value = value })

abbrev pub of_items : List Data → Option Pair
of_items [] = None
of_items (number ∷ []) = None
of_items (number ∷ value ∷ []) = of_two (as_integer number) (as_integer value)
of_items (number ∷ value ∷ more ∷ rest) = None

abbrev pub pair_of : Data → Option Pair
pair_of value = option_and_then (λ items. of_items (values_in items)) (as_array value)

abbrev pub are_pairs : List Data → Bool
are_pairs values = list_all (λ value. is_some (pair_of value)) values

-- those of the values that are pairs
abbrev pub pairs_of : List Data → List Pair
pairs_of values = filter_map pair_of values

-- `cvs` is an array of pairs
abbrev pub pairs_in : Items → Result (List Pair) RosterFaultKind
pairs_in items = if are_pairs (values_in items) then Ok (pairs_of (values_in items)) else Err BadShape

abbrev pub cvs_of : Data → Result (List Pair) RosterFaultKind
cvs_of value = or_fault (as_array value) BadShape >>= pairs_in

-- the value is a byte
abbrev pub is_below : ℕ → ℤ → Bool
is_below most (pos n) = nat_lt n most
is_below most (negsuc n) = false

abbrev pub has_byte : Pair → Bool
has_byte pair = is_below 256 pair.value

-- the number is one that 16 bits hold
abbrev pub has_word : Pair → Bool
has_word pair = is_below 65536 pair.number

-- the variable with its value, where both are such
abbrev pub natural : ℤ → ℕ
natural (pos n) = n
natural (negsuc n) = 0

abbrev pub cv_pair_of : Pair → CvPair
cv_pair_of pair = record { number = natural pair.number; value = natural pair.value }

-- the variables done and those after them, if they are 1,024 at most in all, and all numbers and values are such
abbrev pub cv_pairs_after : List CvPair → List Pair → Option (List CvPair)
cv_pairs_after done pairs =
    if list_all (λ pair. has_word pair && has_byte pair) pairs && nat_le (length done + length pairs) 1024 then Some (done ++ map cv_pair_of pairs) else None
