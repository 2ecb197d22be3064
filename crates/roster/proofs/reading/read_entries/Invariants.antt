use Rattle.std.proofs.Common.{◌≡◌, [], length, drop}
use Rattle.toml.specs.View.{items_view}
use Rattle.roster.specs.Entry.{AreNamed}
use Rattle.roster.specs.Format.{entries_after}
use Rattle.roster.proofs.reading.read_entries.Given as goal

abbrev pub invariant-loop-value : goal.invariant-loop-value
invariant-loop-value l = record {
  node : l.node ≡ l.value-index;
  count : length l.entries.items ≡ l.value-index;
  names : AreNamed l.entries.items;
  same : entries_after l.version [] (items_view l.values) ≡ entries_after l.version l.entries.items (items_view (drop l.value-index l.values));
}
