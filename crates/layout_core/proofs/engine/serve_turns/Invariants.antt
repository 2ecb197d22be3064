use Rattle.std.proofs.Common.{◌≡◌, false, replicate}
use Rattle.layout_core.specs.declared.event.Event.TheVariants.{Turn}
use Rattle.layout_core.specs.Served.{ServesEvents, moment_of}
use Rattle.layout_core.proofs.engine.serve_turns.Given as goal

abbrev pub invariant-loop-turn : goal.invariant-loop-turn
invariant-loop-turn g l = record {
  serves : ServesEvents l.line (replicate l._turn (Turn 0))
      (moment_of l.fn.world (g.K.Sink.held l.fn.sink) (g.T.Sink.held l.fn.trace) l.fn.counts.replies l.fn.counts.turns)
      (moment_of l.world (g.K.Sink.held l.sink) (g.T.Sink.held l.trace) l.counts.replies l.counts.turns);
  sink_works : g.K.Sink.failed l.sink ≡ false;
  trace_works : g.T.Sink.failed l.trace ≡ false;
}
