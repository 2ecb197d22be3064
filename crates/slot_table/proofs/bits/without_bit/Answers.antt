use mir.Syntax.{w128}
use Rattle.std.proofs.lemmas.Nat.Bits.{bit_at_clear_same, bit_at_clear_other}
use Rattle.slot_table.proofs.bits.without_bit.Goals as goal

pub returns-clause-same : goal.returns-clause-same
returns-clause-same c = bit_at_clear_same w128 c.args.word c.args.n c.requires

pub returns-clause-others : goal.returns-clause-others
returns-clause-others c i h ne = bit_at_clear_other w128 c.args.word c.args.n c.requires i h ne
