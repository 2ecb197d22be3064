use Rattle.std.proofs.Common.{Bool, List, ap, arith, false, ◌*◌, ◌%◌, ◌-◌, ◌^◌, ◌∙◌}
use Rattle.std.proofs.lemmas.Nat.{and_le_l}
use Rattle.std.specs.Prelude.{slice_set}
use Rattle.railway.proofs.Sets.{marks-clear}
use Rattle.railway.proofs.block_set.BlockSet.without.Goals as goal

pub invariant_of-result : goal.invariant_of-result
invariant_of-result c = omega (arith, c.self.invariant, and_le_l c.self.inside.bits (2 ^ 64 - 1 - 1 * 2 ^ c.args.block % 2 ^ 64))

pub returns : goal.returns
returns c = marks-clear c.self.inside.bits c.args.block c.requires ∙ ap (λ (m : List Bool). slice_set m c.args.block false) c.self.view_is
