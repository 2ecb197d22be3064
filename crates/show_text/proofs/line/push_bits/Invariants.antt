use Rattle.std.proofs.Common.{◌≡◌, ◌++◌}
use Rattle.show_text.specs.Lines.{bits_text}
use Rattle.show_text.proofs.line.push_bits.Given as goal

abbrev pub invariant-loop-k : goal.invariant-loop-k
invariant-loop-k l = l.line.bytes ≡ l.initial.line.bytes ++ bits_text l.k l.bits
