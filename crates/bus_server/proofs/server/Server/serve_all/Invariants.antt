use Rattle.bus_server.specs.Snapshots.{IsReady, ProgressesBy, snapshot}
use Rattle.bus_server.specs.Rounds.{ServesClients}
use Rattle.bus_server.proofs.server.Server.serve_all.Given as goal

abbrev pub invariant-loop-count : goal.invariant-loop-count
invariant-loop-count g l = record {
  ready : IsReady (g.P.Observer.decoder_specs l.observer) l.self.hub;
  served : ProgressesBy (ServesClients l.fn.self.hub.first_client l.count) (snapshot (g.W.Transport.log l.fn.transport) (g.P.Observer.observed l.fn.observer) l.fn.self.hub) (snapshot (g.W.Transport.log l.transport) (g.P.Observer.observed l.observer) l.self.hub);
}
