use Rattle.std.proofs.Common.{◌≡◌, ◌+◌, ◌*◌, ◌≤◌, [], false}
use Rattle.track_signal.specs.Dump.{idle_halves}
use Rattle.track_signal.proofs.Rails.{HasDumped}
use Rattle.track_signal.proofs.drawing.write_idle.Given as goal

abbrev pub invariant-loop-left : goal.invariant-loop-left
invariant-loop-left g l = record {
  drawn : HasDumped [] l.start (idle_halves l.count) l.time (idle_halves l.left) (g.O.Sink.held l.fn.output) (g.O.Sink.held l.output);
  soon : l.time + 13800 * l.left ≤ l.start + 13800 * l.count;
  writes : g.O.Sink.failed l.output ≡ false;
}

abbrev pub decreases-loop-left : goal.decreases-loop-left
decreases-loop-left g l = l.left
