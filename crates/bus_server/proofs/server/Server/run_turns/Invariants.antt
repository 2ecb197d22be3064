use Rattle.bus_server.specs.Snapshots.{IsObserved, IsReady, state_of}
use Rattle.bus_server.specs.Track.{RunsTurns}
use Rattle.bus_server.proofs.server.Server.run_turns.Given as goal

abbrev pub invariant-loop-client : goal.invariant-loop-client
invariant-loop-client g l = record {
  ready : IsReady (g.P.Observer.decoder_specs l.observer) l.self.hub;
  happened : IsObserved (λ applied. RunsTurns l.client applied (state_of l.fn.self.hub) (state_of l.self.hub)) (g.P.Observer.observed l.fn.observer) (g.P.Observer.observed l.observer);
}
