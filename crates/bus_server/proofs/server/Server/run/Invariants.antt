use Rattle.std.proofs.Common.{◌≡◌, List, length}
use Rattle.bus_server.specs.Snapshots.{ObservesLayout, HasReported}
use Rattle.bus_server.specs.Running.{Round, RunsLogged, run_snapshot}
use Rattle.bus_server.proofs.server.Server.run.Given as goal

abbrev pub invariant-loop-round : goal.invariant-loop-round
invariant-loop-round g l = record {
  observes : ObservesLayout (g.P.Observer.decoder_specs l.observer) l.self.hub;
  reported : HasReported l.self.hub;
  begun : g.A.AfterRound.begun l.after_round ≡ g.A.AfterRound.begun l.fn.after_round;
  after_round : g.A.AfterRound.failed l.after_round ≡ g.A.AfterRound.failed l.fn.after_round;
  rounds : (rounds : List Round) × (length rounds ≡ l._round) × RunsLogged l.most rounds (run_snapshot (g.W.Transport.log l.fn.transport) (g.C.TimeSource.readings l.fn.clock) (g.P.Observer.observed l.fn.observer) (g.A.AfterRound.shown l.fn.after_round) l.fn.self.hub) (run_snapshot (g.W.Transport.log l.transport) (g.C.TimeSource.readings l.clock) (g.P.Observer.observed l.observer) (g.A.AfterRound.shown l.after_round) l.self.hub);
}
