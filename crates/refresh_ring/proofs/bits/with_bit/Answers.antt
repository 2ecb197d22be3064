use Rattle.std.proofs.Common.{w64}
use Rattle.std.proofs.lemmas.Nat.Bits.{bit_at_set_same, bit_at_set_other, bit_at_clear_same, bit_at_clear_other}
use Rattle.refresh_ring.proofs.bits.with_bit.Goals as goal

pub returns-then-on-clause-same : goal.returns-then-on-clause-same
returns-then-on-clause-same c = rw c.if-on.true (bit_at_set_same w64 c.args.word c.args.k c.requires)

pub returns-then-on-clause-others : goal.returns-then-on-clause-others
returns-then-on-clause-others c i h ne = bit_at_set_other w64 c.args.word c.args.k c.requires i ne

pub returns-else-on-clause-same : goal.returns-else-on-clause-same
returns-else-on-clause-same c = rw c.if-on.false (bit_at_clear_same w64 c.args.word c.args.k c.requires)

pub returns-else-on-clause-others : goal.returns-else-on-clause-others
returns-else-on-clause-others c i h ne = bit_at_clear_other w64 c.args.word c.args.k c.requires i h ne
