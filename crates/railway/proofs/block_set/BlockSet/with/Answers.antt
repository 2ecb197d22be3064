use Rattle.std.proofs.Common.{Bool, List, ap, arith, true, ◌*◌, ◌%◌, ◌^◌, ◌∙◌}
use Rattle.std.proofs.lemmas.Nat.{or_lt}
use Rattle.std.specs.Prelude.{slice_set}
use Rattle.railway.proofs.Sets.{marks-set}
use Rattle.railway.proofs.block_set.BlockSet.with.Goals as goal

pub invariant_of-result : goal.invariant_of-result
invariant_of-result c = or_lt 64 c.self.inside.bits (1 * 2 ^ c.args.block % 2 ^ 64) c.self.invariant (omega arith)

pub returns : goal.returns
returns c = marks-set c.self.inside.bits c.args.block c.requires ∙ ap (λ (m : List Bool). slice_set m c.args.block true) c.self.view_is
