-- What a list of configuration variables with their values makes of a locomotive decoder (NMRA
-- S-9.2.2; which lists are refused, and what is taken where CV17 or CV18 is left out, is this
-- project's profile).
use Rattle.std.specs.Prelude.{ℕ, ◌==◌, ◌&&◌, ◌||◌, nat_le, Bool, if◌then◌else◌, List, Option, Some, None, option_map, Result, Err}
use Rattle.std.specs.List.{count_by, find, list_all}
use Rattle.std.specs.Option.{unwrap_or}
use Rattle.decoder_cv.specs.declared.cv_fault.CvFault.{CvFault}
use Rattle.decoder_cv.specs.declared.cv_fault.CvFault.TheVariants.{BadList}
use Rattle.decoder_cv.specs.declared.cv_pair.CvPair.{CvPair}
use Rattle.decoder_cv.specs.Settings.{Settings, settings_of}

-- configuration variables are numbered 1 to 1024
abbrev pub is_number : ℕ → Bool
is_number number = nat_le 1 number && nat_le number 1024

-- this is the pair of that variable
abbrev pub is_of : ℕ → CvPair → Bool
is_of number pair = pair.number == number

-- how often the list names a variable
abbrev pub times : ℕ → List CvPair → ℕ
times number pairs = count_by (is_of number) pairs

-- the value that the list has for a variable, if it names it
abbrev pub value_in : ℕ → List CvPair → Option ℕ
value_in number pairs = option_map (λ pair. pair.value) (find (is_of number) pairs)

-- each number is a variable's, and none appears twice
abbrev pub are_variables : List CvPair → Bool
are_variables pairs = list_all (λ pair. is_number pair.number && times pair.number pairs == 1) pairs

-- CV1 and CV29 have to be there. CV17 left out is 192, CV18 left out 0.
abbrev pub settings_with : (cv1 cv17 cv18 cv29 : Option ℕ) → Result Settings CvFault
settings_with None cv17 cv18 cv29 = Err BadList
settings_with (Some cv1) cv17 cv18 None = Err BadList
settings_with (Some cv1) cv17 cv18 (Some cv29) = settings_of cv1 (unwrap_or cv17 192) (unwrap_or cv18 0) cv29

abbrev pub listed : List CvPair → Result Settings CvFault
listed pairs =
    if are_variables pairs then settings_with (value_in 1 pairs) (value_in 17 pairs) (value_in 18 pairs) (value_in 29 pairs) else Err BadList

-- one of the four variables that settings are made of
abbrev pub is_read : CvPair → Bool
is_read pair = is_of 1 pair || is_of 17 pair || is_of 18 pair || is_of 29 pair
