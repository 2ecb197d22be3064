use Rattle.std.proofs.Common.{◌≡◌, ◌*◌, ◌≤◌, drop, false}
use Rattle.track_signal.specs.Dump.{header, turn_halves}
use Rattle.track_signal.proofs.Rails.{HasDumped}
use Rattle.track_signal.proofs.signal.TrackSignalDrawing.draw.Given as goal

abbrev pub invariant-loop-turn : goal.invariant-loop-turn
invariant-loop-turn g l = record {
  drawn : HasDumped header 0 (turn_halves 0 l.turns) l.time (turn_halves l.last (drop l.turn-index l.turns)) (g.O.Sink.held l.fn.output) (g.O.Sink.held l.output);
  soon : l.time ≤ 231525594600 * l.turn-index;
  writes : g.O.Sink.failed l.output ≡ false;
}
