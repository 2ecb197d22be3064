-- The decoders of a borrowed roster.
use Rattle.std.specs.Prelude.{ℕ, List, [], map, Option, Some, None}
use Rattle.std.specs.Borrow.{Bor}
use Rattle.decoder_node.specs.declared.node.NodeSpec.{NodeSpec}
use Rattle.roster.specs.Entry.{Entry, name_of, spec_of}

-- its entries; none without one
abbrev pub entries_of : Option (Bor (List Entry)) → List Entry
entries_of (Some roster) = roster.now
entries_of None = []

-- the name of a decoder, empty if there is none
abbrev pub decoder_name : Option Entry → List ℕ
decoder_name None = []
decoder_name (Some entry) = entry.name

-- the decoders of these entries
abbrev pub specs_of : List Entry → List NodeSpec
specs_of entries = map spec_of entries

-- their names
abbrev pub names_of : List Entry → List (List ℕ)
names_of entries = map name_of entries
