use Rattle.std.proofs.Common.{◌≡◌, false, length, List}
use Rattle.bus.specs.Log.{Extends}
use Rattle.bus_server.specs.ServerState.{Handled, observations_in, transport_events, waits}
use Rattle.bus_server.specs.Snapshots.{IsReady, state_of}
use Rattle.bus_server.specs.Rounds.{ReadsOn}
use Rattle.bus_server.proofs.server.Server.receive.Given as goal

-- the client was read, as often as bytes were, and is read on
abbrev pub invariant-loop-byte : goal.invariant-loop-byte
invariant-loop-byte g l = record {
  ready : IsReady (g.P.Observer.decoder_specs l.observer) l.self.hub;
  waits : waits (state_of l.self.hub) l.client ≡ false;
  served : (handled : List Handled) × (length handled ≡ l._byte) × Extends (g.W.Transport.log l.fn.transport) (g.W.Transport.log l.transport) (transport_events handled)
      × Extends (g.P.Observer.observed l.fn.observer) (g.P.Observer.observed l.observer) (observations_in handled)
      × ReadsOn l.client handled (state_of l.fn.self.hub) (state_of l.self.hub);
}
