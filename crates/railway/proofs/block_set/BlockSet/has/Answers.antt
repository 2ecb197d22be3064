use Rattle.std.proofs.Common.{◌==◌, Bool, List, ℕ, ap, false, sym, ◌∙◌}
use Rattle.std.proofs.lemmas.Nat.Bits.{shr_and_one}
use Rattle.std.specs.List.{slice_index_or}
use Rattle.railway.proofs.Sets.{mark-at}
use Rattle.railway.proofs.block_set.BlockSet.has.Goals as goal

pub returns : goal.returns
returns c =
    ap (λ (bit : ℕ). bit == 1) (shr_and_one c.self.inside.bits c.args.block) ∙ sym (mark-at c.self.inside.bits c.args.block c.requires)
    ∙ ap (λ (m : List Bool). slice_index_or m c.args.block false) c.self.view_is
