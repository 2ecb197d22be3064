-- Nodes one by one, as they are in an array.
use Rattle.std.proofs.Common.{◌≡◌, ℕ, ◌+◌, ◌<◌, List, [], ◌∷◌, ◌++◌, length, get_or, drop, Ok, refl}
use Rattle.toml.specs.declared.value.Value.{Value}
use Rattle.toml.specs.View.{items_view, view}
use Rattle.toml.proofs.Views.{items_view-drop}
use Rattle.roster.specs.declared.version.Version.{Version}
use Rattle.roster.specs.Entry.{Entry}
use Rattle.roster.specs.Format.{entries_after, entry_of}

pub entries_step : (version : Version) (values : List Value) (i : ℕ) (d : Value) (earlier : List Entry) (entry : Entry) → i < length values → entry_of version earlier (view (get_or values i d)) ≡ Ok entry
    → entries_after version earlier (items_view (drop i values)) ≡ entries_after version (earlier ++ entry ∷ []) (items_view (drop (i + 1) values))
entries_step version values i d earlier entry within e = rw (items_view-drop values i d within, e) refl
