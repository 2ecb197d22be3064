use Rattle.std.proofs.Common.{◌≡◌, length, take}
use Rattle.station.specs.Layout.{IsWorldOf, entries_in, roster_value}
use Rattle.station.proofs.DecoderState.{HasReplayed}
use Rattle.station.proofs.replay.play.Given as goal

-- the commands so far; nothing takes a line or a decoder away, and no write failed
abbrev pub invariant-loop-command : goal.invariant-loop-command
invariant-loop-command g l = record {
  replayed : HasReplayed (entries_in (roster_value l.roster)) (take l.command-index l.commands) l.turn l.initial.world l.world (g.O.Sink.held l.initial.output) (g.O.Sink.held l.output);
  lines : length l.world.station.lines ≡ length l.initial.world.station.lines;
  nodes : IsWorldOf (roster_value l.roster) l.world.nodes;
  failed : g.O.Sink.failed l.output ≡ g.O.Sink.failed l.initial.output;
  loan : g.O.Sink.loan l.output ≡ g.O.Sink.loan l.initial.output;
}
