use Rattle.std.proofs.Common.{◌≡◌, [], length, drop, map}
use Rattle.toml.specs.View.{items_view}
use Rattle.railway_plan.specs.declared.fault.Section.TheVariants.{Block}
use Rattle.railway_plan.specs.Format.{block_in, parts_after}
use Rattle.railway_plan.specs.Entries.{block_entry}
use Rattle.railway_plan.proofs.reading.read_blocks.Given as goal

abbrev pub invariant-loop-i : goal.invariant-loop-i
invariant-loop-i l = record {
  count : length l.parts.items ≡ l.i;
  same : parts_after block_in Block [] (items_view l.values) ≡ parts_after block_in Block (map block_entry l.parts.items) (items_view (drop l.i l.values));
}
