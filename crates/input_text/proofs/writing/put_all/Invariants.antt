use Rattle.std.proofs.Common.{◌≡◌, length}
use Rattle.input_text.proofs.Fronts.{HasWritten}
use Rattle.input_text.proofs.writing.put_all.Given as goal

-- a prefix has been written, the rest is still to be written, and no write has failed
abbrev pub invariant-loop-rest : goal.invariant-loop-rest
invariant-loop-rest g l = record {
  written : HasWritten (g.O.Sink.held l.initial.output) (g.O.Sink.held l.output) l.bytes l.rest;
  failed : g.O.Sink.failed l.output ≡ g.O.Sink.failed l.initial.output;
  same : g.O.Sink.loan l.output ≡ g.O.Sink.loan l.initial.output;
}

abbrev pub decreases-loop-rest : goal.decreases-loop-rest
decreases-loop-rest g l = length l.rest
