use Rattle.std.proofs.Common.{ap, ◌∙◌}
use Rattle.refresh_ring.specs.Words.{slots_in}
use Rattle.refresh_ring.proofs.Spread.{empty-slots, empty-spread}
use Rattle.refresh_ring.proofs.bit_ring.BitRingRing.empty.Goals as goal

pub invariant_of-result : goal.invariant_of-result
invariant_of-result c = rw c.empty.ensures empty-spread

pub returns : goal.returns
returns c = ap slots_in c.empty.ensures ∙ empty-slots
