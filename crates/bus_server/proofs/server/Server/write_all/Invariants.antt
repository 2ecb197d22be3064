use Rattle.bus_server.specs.Snapshots.{IsReady, ProgressesWithoutInput, snapshot}
use Rattle.bus_server.proofs.Rounding.{AllShared}
use Rattle.bus_server.proofs.server.Server.write_all.Given as goal

abbrev pub invariant-loop-client : goal.invariant-loop-client
invariant-loop-client g l = record {
  ready : IsReady (g.P.Observer.decoder_specs l.observer) l.self.hub;
  served : ProgressesWithoutInput (AllShared l.client) (snapshot (g.W.Transport.log l.fn.transport) (g.P.Observer.observed l.fn.observer) l.fn.self.hub) (snapshot (g.W.Transport.log l.transport) (g.P.Observer.observed l.observer) l.self.hub);
}
