use Rattle.std.proofs.Common.{length}
use Rattle.bus_server.specs.Snapshots.{ObservesLayout, state_of}
use Rattle.bus_server.specs.DeviceReports.{queue_of}
use Rattle.bus_server.specs.Hub.{ObservesReports}
use Rattle.bus_server.proofs.server.Server.observe.Given as goal

abbrev pub invariant-loop-report : goal.invariant-loop-report
invariant-loop-report g l = record {
  observes : ObservesLayout (g.P.Observer.decoder_specs l.observer) l.self.hub;
  log : ObservesReports l.outcome (g.P.Observer.observed l.fn.observer) (g.P.Observer.observed l.observer) (state_of l.fn.self.hub) (state_of l.self.hub);
}

abbrev pub decreases-loop-report : goal.decreases-loop-report
decreases-loop-report g l = length (queue_of l.self.hub.sensors.unreported)
