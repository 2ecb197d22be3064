use Rattle.std.proofs.Common.{Err, refl}
use Rattle.railway_plan.specs.declared.fault.Reason.TheVariants.{BadKey}
use Rattle.railway_plan.specs.declared.key.Key.TheVariants.{Ends}
use Rattle.railway_plan.specs.Entries.{names_of}
use Rattle.railway_plan.specs.Format.{joint_of}
use Rattle.railway_plan.proofs.Lengths.{fewer, more}
use Rattle.railway_plan.proofs.parts.joint_of.Goals as goal

pub returns-in_default : goal.returns-in_default
returns-in_default c = fewer (joint_of (names_of c.args.blocks.now)) (Err (BadKey Ends)) refl (λ x. refl) c.args.ends.now c.in_default.len_below

pub returns-in_default-3 : goal.returns-in_default-3
returns-in_default-3 c = more (joint_of (names_of c.args.blocks.now)) (Err (BadKey Ends)) (λ x y z items. refl) c.args.ends.now c.in_default.len_at_least
