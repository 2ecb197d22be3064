use Rattle.std.proofs.Common.{◌≡◌, drop}
use Rattle.console.proofs.Printing.{HasPrinted}
use Rattle.console.proofs.monitoring.print_messages.Given as goal

-- the lines printed so far, and no failure
abbrev pub invariant-loop-byte : goal.invariant-loop-byte
invariant-loop-byte g l = record {
  printed : HasPrinted l.bytes l.framer (drop l.byte-index l.bytes) (g.O.Sink.held l.fn.output) (g.O.Sink.held l.output);
  failed : g.O.Sink.failed l.output ≡ g.O.Sink.failed l.fn.output;
  same : g.O.Sink.loan l.output ≡ g.O.Sink.loan l.fn.output;
}
