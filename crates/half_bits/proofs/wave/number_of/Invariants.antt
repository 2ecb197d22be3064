use Rattle.std.proofs.Common.{take}
use Rattle.half_bits.proofs.Numbers.{Holds}
use Rattle.half_bits.proofs.wave.number_of.Given as goal

abbrev pub invariant-loop-byte : goal.invariant-loop-byte
invariant-loop-byte l = Holds (take l.byte-index l.byte-items) l.zeros l.bits
