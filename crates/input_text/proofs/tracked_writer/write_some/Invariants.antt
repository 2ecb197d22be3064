use Rattle.std.specs.Io.KnownBytes.{Keeps}
use Rattle.input_text.proofs.tracked_writer.write_some.Given as goal

-- interrupted writes wrote nothing
abbrev pub invariant-loop : goal.invariant-loop
invariant-loop g l = Keeps (g.W.Write.contents l.initial.writer) (g.W.Write.contents l.writer)
