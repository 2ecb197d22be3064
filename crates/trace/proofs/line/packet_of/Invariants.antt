use Rattle.std.proofs.Common.{length}
use Rattle.trace.proofs.Turns.{HasRead}
use Rattle.trace.proofs.line.packet_of.Given as goal

abbrev pub invariant-loop-bytes : goal.invariant-loop-bytes
invariant-loop-bytes l = HasRead l.words l.bytes.items l.rest

abbrev pub decreases-loop-bytes : goal.decreases-loop-bytes
decreases-loop-bytes l = length l.rest
