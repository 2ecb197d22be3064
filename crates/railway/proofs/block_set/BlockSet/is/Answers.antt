use Rattle.std.proofs.Common.{Bool, List, ap, ◌∙◌}
use Rattle.std.specs.Bool.{beq}
use Rattle.std.specs.Cmp.Lexicographic.{pointwise}
use Rattle.railway.specs.BlockSets.{marks_of}
use Rattle.railway.proofs.Sets.{marks-eq}
use Rattle.railway.proofs.block_set.BlockSet.is.Goals as goal

pub returns : goal.returns
returns c =
    marks-eq c.self.inside.bits c.other.inside.bits c.self.invariant c.other.invariant
    ∙ ap (λ (m : List Bool). pointwise beq m (marks_of c.other.inside.bits)) c.self.view_is
    ∙ ap (λ (m : List Bool). pointwise beq c.args.self m) c.other.view_is
