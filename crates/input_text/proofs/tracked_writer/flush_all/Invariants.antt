use Rattle.std.specs.Io.KnownBytes.{Keeps}
use Rattle.input_text.proofs.tracked_writer.flush_all.Given as goal

-- an interrupted flush kept all bytes
abbrev pub invariant-loop : goal.invariant-loop
invariant-loop g l = Keeps (g.W.Write.contents l.initial.writer) (g.W.Write.contents l.writer)
