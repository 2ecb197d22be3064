-- The decoders of a layout, as its roster lists them.
use Rattle.std.specs.Prelude.{ℕ, ◌≡◌, ◌<◌, List, [], Option, Some, None, length, map, option_map}
use Rattle.std.specs.Borrow.{Bor}
use Rattle.std.specs.List.{slice_index_or}
use Rattle.decoder_node.specs.declared.node.NodeSpec.{NodeSpec}
use Rattle.layout_core.specs.declared.node.Node.{Node}
use Rattle.layout_core.specs.Nodes.{IsBetween, spec_of as spec_of_node}
use Rattle.roster.specs.Entry.{Entry, spec_of as spec_of_entry}

-- the borrowed roster
abbrev pub roster_value : Option (Bor (List Entry)) → Option (List Entry)
roster_value = option_map (λ roster. roster.now)

-- its entries; none without one
abbrev pub entries_in : Option (List Entry) → List Entry
entries_in (Some entries) = entries
entries_in None = []

-- those of the roster in order; none without one
abbrev pub specs_in : Option (List Entry) → List NodeSpec
specs_in (Some entries) = map spec_of_entry entries
specs_in None = []

-- no decoder has a packet under way, as in a new layout
abbrev pub AreBetween : List Node → Type 0
AreBetween nodes = (i : ℕ) (none : Node) → i < length nodes → IsBetween (slice_index_or nodes i none)

-- the decoders are those of the roster
abbrev pub IsWorldOf : Option (List Entry) → List Node → Type 0
IsWorldOf roster nodes = map spec_of_node nodes ≡ specs_in roster
