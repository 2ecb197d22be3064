use Rattle.std.proofs.Common.{◌≡◌, ◌<◌, false}
use Rattle.bus_server.specs.ServerState.{is_crowded}
use Rattle.bus_server.specs.Snapshots.{IsObserved, IsReady, state_of}
use Rattle.bus_server.specs.Track.{RunsSteps, is_turn}
use Rattle.bus_server.proofs.server.Server.run_up_to.Given as goal

-- so many turns were run, and none left a queue more than a quarter full
abbrev pub invariant-loop-turn : goal.invariant-loop-turn
invariant-loop-turn g l = record {
  ready : IsReady (g.P.Observer.decoder_specs l.observer) l.self.hub;
  room : 0 < l.turn → is_crowded (state_of l.self.hub) ≡ false;
  happened : IsObserved (λ applied. RunsSteps is_turn l.turn applied (state_of l.fn.self.hub) (state_of l.self.hub)) (g.P.Observer.observed l.fn.observer) (g.P.Observer.observed l.observer);
}
