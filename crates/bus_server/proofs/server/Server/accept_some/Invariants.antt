use Rattle.std.proofs.Common.{◌≡◌, false}
use Rattle.bus_server.specs.ServerState.{has_turns_to_follow}
use Rattle.bus_server.specs.Snapshots.{IsReady, ProgressesWithoutInput, snapshot, state_of}
use Rattle.bus_server.proofs.Rounding.{HasAccepted}
use Rattle.bus_server.proofs.server.Server.accept_some.Given as goal

abbrev pub invariant-loop-client : goal.invariant-loop-client
invariant-loop-client g l = record {
  ready : IsReady (g.P.Observer.decoder_specs l.observer) l.self.hub;
  turns : has_turns_to_follow (state_of l.self.hub) ≡ false;
  served : ProgressesWithoutInput (HasAccepted l.client) (snapshot (g.W.Transport.log l.fn.transport) (g.P.Observer.observed l.fn.observer) l.fn.self.hub) (snapshot (g.W.Transport.log l.transport) (g.P.Observer.observed l.observer) l.self.hub);
}
