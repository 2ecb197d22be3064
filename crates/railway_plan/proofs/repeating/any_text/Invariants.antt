use Rattle.std.proofs.Common.{◌≡◌, drop}
use Rattle.toml.specs.View.{items_view}
use Rattle.railway_plan.specs.Details.{any_text}
use Rattle.railway_plan.proofs.repeating.any_text.Given as goal

abbrev pub invariant-loop-value : goal.invariant-loop-value
invariant-loop-value l = any_text l.end (items_view (drop l.value-index l.values)) ≡ any_text l.end (items_view l.values)
