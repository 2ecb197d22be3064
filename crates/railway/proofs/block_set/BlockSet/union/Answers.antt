use Rattle.std.proofs.Common.{Bool, List, ◌||◌, ap, false, ◌∙◌}
use Rattle.std.proofs.lemmas.Nat.{or_lt}
use Rattle.std.specs.List.{slice_index_or}
use Rattle.railway.specs.BlockSets.{marks_of}
use Rattle.railway.proofs.Sets.{marks-or}
use Rattle.railway.proofs.block_set.BlockSet.union.Goals as goal

pub invariant_of-result : goal.invariant_of-result
invariant_of-result c = or_lt 64 c.self.inside.bits c.other.inside.bits c.self.invariant c.other.invariant

pub returns : goal.returns
returns c block h =
    marks-or c.self.inside.bits c.other.inside.bits block h
    ∙ ap (λ (m : List Bool). slice_index_or m block false || slice_index_or (marks_of c.other.inside.bits) block false) c.self.view_is
    ∙ ap (λ (m : List Bool). slice_index_or c.args.self block false || slice_index_or m block false) c.other.view_is
