use Rattle.std.proofs.Common.{◌≡◌}
use Rattle.layout_core.specs.World.{IsSameLayout}
use Rattle.station.proofs.Replaying.{HasTurned}
use Rattle.station.proofs.replay.play_turns.Given as goal

-- the turns so far; nothing takes a line or a decoder away, and no write failed
abbrev pub invariant-loop-turn : goal.invariant-loop-turn
invariant-loop-turn g l = record {
  turned : HasTurned l.missed l.first l.turn l.initial.world l.world (g.O.Sink.held l.initial.output) (g.O.Sink.held l.output);
  same : IsSameLayout l.initial.world l.world;
  failed : g.O.Sink.failed l.output ≡ g.O.Sink.failed l.initial.output;
  loan : g.O.Sink.loan l.output ≡ g.O.Sink.loan l.initial.output;
}
