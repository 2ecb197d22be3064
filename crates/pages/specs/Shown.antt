-- What pages are shown, as contracts see it.
use Rattle.std.specs.Prelude.{ℕ, ◌≡◌, List, map, option_copied}
use Rattle.layout_core.specs.Nodes.{spec_of}
use Rattle.roster.specs.Decoders.{entries_of, specs_of}
use Rattle.pages.specs.declared.items.ItemState.{ItemState}
use Rattle.pages.specs.declared.shown.Shown.{Shown}
use Rattle.pages.specs.Items.{item_messages, item_states}

-- the decoders are those of the roster
abbrev pub IsOfRoster : Shown → Type 0
IsOfRoster shown = map spec_of shown.world.now.nodes ≡ specs_of (entries_of shown.roster)

-- the messages of the items, and their present states
abbrev pub messages_of : Shown → List (List ℕ)
messages_of shown = item_messages (entries_of shown.roster) shown.world.now.nodes (option_copied shown.railway)

abbrev pub states_of : Shown → List ItemState
states_of shown = item_states shown.world.now.nodes (option_copied shown.railway)
