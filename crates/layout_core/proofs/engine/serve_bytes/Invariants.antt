use Rattle.std.proofs.Common.{take, ◌≡◌, false}
use Rattle.layout_core.specs.Served.{ServesEvents, moment_of, served_events}
use Rattle.layout_core.proofs.engine.serve_bytes.Given as goal

abbrev pub invariant-loop-byte : goal.invariant-loop-byte
invariant-loop-byte g l = record {
  serves : ServesEvents l.line (served_events l.line l.turns (take l.byte-index l.bytes))
      (moment_of l.fn.world (g.K.Sink.held l.fn.sink) (g.T.Sink.held l.fn.trace) l.fn.counts.replies l.fn.counts.turns)
      (moment_of l.world (g.K.Sink.held l.sink) (g.T.Sink.held l.trace) l.counts.replies l.counts.turns);
  sink_works : g.K.Sink.failed l.sink ≡ false;
  trace_works : g.T.Sink.failed l.trace ≡ false;
}
