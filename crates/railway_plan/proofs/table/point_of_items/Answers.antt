use Rattle.std.proofs.Common.{None, refl}
use Rattle.railway_plan.specs.Format.{point_of_items}
use Rattle.railway_plan.proofs.Lengths.{fewer, more}
use Rattle.railway_plan.proofs.table.point_of_items.Goals as goal

pub returns-in_default : goal.returns-in_default
returns-in_default c = fewer point_of_items None refl (λ x. refl) c.args.values.now c.in_default.len_below

pub returns-in_default-2 : goal.returns-in_default-2
returns-in_default-2 c = more point_of_items None (λ x y z items. refl) c.args.values.now c.in_default.len_at_least
