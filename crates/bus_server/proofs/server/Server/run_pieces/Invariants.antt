use Rattle.std.proofs.Common.{◌≡◌, ◌<◌, ◌+◌, ℕ, false}
use Rattle.bus.specs.Course.{micros_in}
use Rattle.bus_server.specs.ServerState.{events_of, is_crowded}
use Rattle.bus_server.specs.Snapshots.{IsObserved, IsReady, state_of}
use Rattle.bus_server.specs.Track.{RunsSteps, is_piece}
use Rattle.bus_server.proofs.server.Server.run_pieces.Given as goal

-- so many pieces have elapsed, none left a queue more than a quarter full, and the rest is still to elapse
abbrev pub invariant-loop-piece : goal.invariant-loop-piece
invariant-loop-piece g l = record {
  ready : IsReady (g.P.Observer.decoder_specs l.observer) l.self.hub;
  room : 0 < l._piece → is_crowded (state_of l.self.hub) ≡ false;
  happened : IsObserved (λ applied. (micros : ℕ) × (micros + l.rest ≡ l.owed) × RunsSteps is_piece l._piece applied (state_of l.fn.self.hub) (state_of l.self.hub)
      × (micros_in (state_of l.fn.self.hub).bus (events_of applied) ≡ micros)) (g.P.Observer.observed l.fn.observer) (g.P.Observer.observed l.observer);
}
