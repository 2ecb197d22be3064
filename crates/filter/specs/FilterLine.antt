-- The command line of a filter, as clap reads it: `[--FLAG] [--SECOND] [FILE]`; and its order: what clap's
-- matches of its arguments hold.
use Rattle.std.specs.Prelude.{◌≡◌, ◌↔◌, Bool, true, false, List, [], ◌∷◌, ◌++◌, codes, Option, Some, None, option_map}
use Rattle.clap.specs.Words.{App, Row, Rule, Text, fault_of, first_of, matches_of, one_of}
use Rattle.command_line.specs.CommandLine.{flag, named_app, value, with_rules}
use Rattle.command_line.specs.Requests.{AsksForText}
use Rattle.filter.specs.declared.text.FilterFlag.{FilterFlag}
use Rattle.filter.specs.declared.text.FilterOrder.{FilterOrder}
use Rattle.filter.specs.declared.text.FilterText.{FilterText}

-- the name of the flag, if there is one
abbrev pub flag_of : Option FilterFlag → Option Text
flag_of = option_map (λ flag. flag.name.now)

abbrev pub flag_rules : Option Text → List Rule
flag_rules None = []
flag_rules (Some name) = flag name ∷ []

abbrev pub filter_rules : FilterText → List Rule
filter_rules text = value (codes "file") ∷ (flag_rules (flag_of text.flag) ++ flag_rules (flag_of text.second_flag))

unfoldable pub filter_app : FilterText → App
filter_app text = with_rules (named_app text.name.now false) (filter_rules text)

-- clap answers the arguments with help or the version
abbrev pub AsksFilter : FilterText → (words : List Text) → Type 0
AsksFilter text words = AsksForText (fault_of (filter_app text) words)

-- the file that the arguments name, if they name one
abbrev pub file_in : FilterText → (words : List Text) → Option Text
file_in text words = first_of (codes "file") (matches_of (filter_app text) words)

-- whether the matches have the flag
abbrev pub IsFlagIn : Option Text → List Row → Bool → Type 0
IsFlagIn None rows is_set = is_set ≡ false
IsFlagIn (Some name) rows is_set = (is_set ≡ true) ↔ (one_of name rows ≡ Some (codes "true"))

pub record IsFilterOrder (text : FilterText) (words : List Text) (order : FilterOrder) : Type 0 where
  pub of_file : order.file ≡ file_in text words
  pub with_flag_set : IsFlagIn (flag_of text.flag) (matches_of (filter_app text) words) order.flags.first
  pub with_second_set : IsFlagIn (flag_of text.second_flag) (matches_of (filter_app text) words) order.flags.second
