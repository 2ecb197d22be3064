use Rattle.refresh_ring.proofs.Masks.{has_bit-is}
use Rattle.refresh_ring.proofs.bits.has_bit.Goals as goal

pub returns : goal.returns
returns c = has_bit-is c.args.word c.args.k c.requires
