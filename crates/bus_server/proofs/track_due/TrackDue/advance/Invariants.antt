use Rattle.std.proofs.Common.{◌≡◌, ◌++◌, take, drop, length, map}
use Rattle.bus_server.specs.TrackDue.{after_answer}
use Rattle.bus_server.proofs.track_due.TrackDue.advance.Given as goal

-- the clients before this index were told, and the others not yet
abbrev pub invariant-loop-client : goal.invariant-loop-client
invariant-loop-client l = record {
  turns : take l.client l.self.turns ++ map after_answer (drop l.client l.self.turns) ≡ map after_answer l.fn.self.turns;
  micros : l.self.micros ≡ l.fn.self.micros;
  eight : length l.self.turns ≡ 8;
}
