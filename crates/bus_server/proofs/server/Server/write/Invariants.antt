use Rattle.bus_server.specs.Snapshots.{IsReady, ProgressesWithoutInput, snapshot}
use Rattle.bus_server.proofs.Rounding.{HasPut}
use Rattle.bus_server.proofs.server.Server.write.Given as goal

abbrev pub invariant-loop-piece : goal.invariant-loop-piece
invariant-loop-piece g l = record {
  ready : IsReady (g.P.Observer.decoder_specs l.observer) l.self.hub;
  served : ProgressesWithoutInput (HasPut l.client l._piece) (snapshot (g.W.Transport.log l.fn.transport) (g.P.Observer.observed l.fn.observer) l.fn.self.hub) (snapshot (g.W.Transport.log l.transport) (g.P.Observer.observed l.observer) l.self.hub);
}
