use Rattle.std.proofs.Common.{Bool, List, ◌&&◌, ◌-◌, ◌^◌, ap, arith, false, not, ◌∙◌}
use Rattle.std.proofs.lemmas.Nat.{and_le_l}
use Rattle.std.specs.List.{slice_index_or}
use Rattle.railway.specs.BlockSets.{marks_of}
use Rattle.railway.proofs.Sets.{marks-minus}
use Rattle.railway.proofs.block_set.BlockSet.minus.Goals as goal

pub invariant_of-result : goal.invariant_of-result
invariant_of-result c = omega (arith, c.self.invariant, and_le_l c.self.inside.bits (2 ^ 64 - 1 - c.other.inside.bits))

pub returns : goal.returns
returns c block h =
    marks-minus c.self.inside.bits c.other.inside.bits block c.other.invariant h
    ∙ ap (λ (m : List Bool). slice_index_or m block false && not (slice_index_or (marks_of c.other.inside.bits) block false)) c.self.view_is
    ∙ ap (λ (m : List Bool). slice_index_or c.args.self block false && not (slice_index_or m block false)) c.other.view_is
