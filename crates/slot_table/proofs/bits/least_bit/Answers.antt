use Rattle.std.proofs.Common.{◌<◌, arith}
use mir.Syntax.{w128}
use Rattle.std.proofs.lemmas.Nat.Bits.{bit_at-trailing_zeros}
use Rattle.slot_table.proofs.bits.least_bit.Goals as goal

pub returns-else-word-eq0 : goal.returns-else-word-eq0
returns-else-word-eq0 c =
    let some : 0 < c.args.word = omega arith in
    let z = bit_at-trailing_zeros w128 c.args.word some (omega arith) in
    record { within = z.0; here = z.1; below = z.2 }
