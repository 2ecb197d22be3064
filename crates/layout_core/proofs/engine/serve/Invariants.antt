use Rattle.std.proofs.Common.{◌≡◌, false, length}
use Rattle.layout_core.specs.Served.{input_of, moment_of}
use Rattle.layout_core.proofs.ServeSteps.{IsServedSoFar}
use Rattle.layout_core.proofs.engine.serve.Given as goal

abbrev pub invariant-loop-reads : goal.invariant-loop-reads
invariant-loop-reads g l = record {
  served : IsServedSoFar l.line l.limits.turns l.reads l.bytes
      (input_of (g.S.Source.left l.fn.source) (g.S.Source.reads l.fn.source)) (input_of (g.S.Source.left l.source) (g.S.Source.reads l.source))
      (moment_of l.fn.world (g.K.Sink.held l.fn.sink) (g.T.Sink.held l.fn.trace) 0 0)
      (moment_of l.world (g.K.Sink.held l.sink) (g.T.Sink.held l.trace) l.counts.replies l.counts.turns);
  whole : length l.buf ≡ 64;
  open_still : g.S.Source.ended l.source ≡ false;
  source_works : g.S.Source.failed l.source ≡ false;
  sink_works : g.K.Sink.failed l.sink ≡ false;
  trace_works : g.T.Sink.failed l.trace ≡ false;
}
