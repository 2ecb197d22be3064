use Rattle.std.proofs.Common.{◌≡◌, ◌-◌, ◌^◌, false}
use Rattle.explain.specs.Streams.{Follows}
use Rattle.explain.proofs.streams.push_all.Given as goal

-- the bytes read so far
abbrev pub invariant-loop-end : goal.invariant-loop-end
invariant-loop-end g l = record {
  followed : Follows (g.I.Input.left l.initial.input) (g.I.Input.left l.input) (g.O.Sink.held l.initial.output) (g.O.Sink.held l.output)
      l.initial.explainer.is_long l.initial.explainer.line.items l.explainer.is_long l.explainer.line.items;
  works : g.I.Input.failed l.input ≡ false;
  writes : g.O.Sink.failed l.output ≡ false;
}

-- an input delivers less than 2^64 bytes
abbrev pub decreases-loop-end : goal.decreases-loop-end
decreases-loop-end g l = 2 ^ 64 - g.I.Input.given l.input
