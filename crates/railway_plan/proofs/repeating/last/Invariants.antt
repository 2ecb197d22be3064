use Rattle.std.proofs.Common.{◌≡◌, ◌+◌, None, drop}
use Rattle.toml.specs.View.{items_view}
use Rattle.railway_plan.specs.Details.{last_from}
use Rattle.railway_plan.specs.Sought.{is_sought}
use Rattle.railway_plan.proofs.repeating.last.Given as goal

abbrev pub invariant-loop-i : goal.invariant-loop-i
invariant-loop-i l = last_from (is_sought l.sought) (l.i + 1) (items_view (drop l.i l.parts)) l.found ≡ last_from (is_sought l.sought) 1 (items_view l.parts) None
