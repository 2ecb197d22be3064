use Rattle.std.proofs.Common.{◌≡◌, ◌+◌, sum}
use Rattle.half_bits.specs.Halves.{duration_of}
use Rattle.half_bits.proofs.duration.duration_in_micros.Given as goal

-- the halves counted and the remaining ones are the whole
abbrev pub invariant-loop-half : goal.invariant-loop-half
invariant-loop-half l = l.micros + sum l.half-iterator ≡ duration_of l.packet
