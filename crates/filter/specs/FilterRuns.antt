-- The effect of a filter for the arguments after its name.
use Rattle.std.specs.Prelude.{ℕ, ◌≡◌, ◌≢◌, ◌⊎◌, List, [], Option, Some, None}
use Rattle.std.specs.Io.KnownBytes.{Appends}
use Rattle.clap.specs.Words.{Text, fault_of}
use Rattle.filter.specs.declared.text.FilterFlags.{FilterFlags}
use Rattle.filter.specs.declared.text.FilterOrder.{FilterOrder}
use Rattle.filter.specs.declared.text.FilterText.{FilterText}
use Rattle.filter.specs.FilterLine.{AsksFilter, IsFilterOrder, filter_app}

-- the effect of a filter on its input and its output
abbrev pub Effect : Type 1
Effect = (old_input new_input old_output new_output : Option (List ℕ)) → Type 0

-- It ran on a file. The contents of a file are not known.
abbrev pub RunsOnFile : Effect → (old_output new_output : Option (List ℕ)) → Type 0
RunsOnFile filters old_output new_output =
    (old_file new_file : Option (List ℕ)) × filters old_file new_file old_output new_output

-- It ran on the file with this name, and standard input has what it had; without one it ran on
-- standard input.
abbrev pub RunsOn : Effect → (file : Option Text) → (old_input new_input old_output new_output : Option (List ℕ)) → Type 0
RunsOn filters None old_input new_input old_output new_output = filters old_input new_input old_output new_output
RunsOn filters (Some file) old_input new_input old_output new_output = (new_input ≡ old_input) × RunsOnFile filters old_output new_output

-- Help or the version was written, and nothing was read. Which text clap has is not specified.
abbrev pub Answers : FilterText → (words : List Text) → (old_input new_input old_output new_output : Option (List ℕ)) → Type 0
Answers text words old_input new_input old_output new_output =
    AsksFilter text words × (new_input ≡ old_input) × ((answer : List ℕ) × Appends old_output new_output answer)

-- clap rejects the arguments
abbrev pub Rejects : FilterText → (words : List Text) → Type 0
Rejects text words = fault_of (filter_app text) words ≢ []

-- A filter with these texts ran as its arguments order, or answered them.
abbrev pub RunsWords : (FilterFlags → Effect) → FilterText → (words : List Text) → (old_input new_input old_output new_output : Option (List ℕ)) → Type 0
RunsWords filters text words old_input new_input old_output new_output =
    ((fault_of (filter_app text) words ≡ []) × ((order : FilterOrder) × IsFilterOrder text words order
    × RunsOn (filters order.flags) order.file old_input new_input old_output new_output))
    ⊎ Answers text words old_input new_input old_output new_output
