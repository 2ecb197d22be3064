use Rattle.std.proofs.Common.{◌≡◌, [], length, drop, map}
use Rattle.toml.specs.View.{items_view}
use Rattle.roster.specs.Entry.{name_of}
use Rattle.railway_plan.specs.Format.{parts_after}
use Rattle.railway_plan.specs.Entries.{names_of}
use Rattle.railway_plan.proofs.members.read_members.Given as goal

abbrev pub invariant-loop-i : goal.invariant-loop-i
invariant-loop-i g l = record {
  count : length l.members.items ≡ l.i;
  same : parts_after (g.M.Member.said (map name_of l.roster) (names_of l.blocks)) g.M.Member.place [] (items_view l.values)
      ≡ parts_after (g.M.Member.said (map name_of l.roster) (names_of l.blocks)) g.M.Member.place l.members.items (items_view (drop l.i l.values));
}
