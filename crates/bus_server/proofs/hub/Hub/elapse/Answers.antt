use Rattle.std.proofs.Common.{ℕ, ap, ◌∙◌}
use Rattle.bus_server.specs.Observations.{Observed}
use Rattle.bus_server.specs.Snapshots.{state_of}
use Rattle.bus_server.specs.Hub.{with_trains_run}
use Rattle.bus_server.proofs.Stepping.{elapse_runs}
use Rattle.bus_server.proofs.hub.Hub.elapse.Goals as goal

pub returns-clause-happens : goal.returns-clause-happens
returns-clause-happens c =
    let missed = c.draw_within-missed.result in
    let drawn = c.draw_within-missed.new.self in (
      missed,
      elapse_runs c.args.micros missed (Observed c.step.result c.step.new.self.bus.world.nodes c.step.new.self.sensors.railway) drawn.losses
          (state_of c.args.self.now) (state_of drawn) (state_of c.run_trains.new.self) (state_of c.step.new.self)
          c.requires.piece c.requires.reported c.draw_within-missed.ensures.drawn c.draw_within-missed.ensures.kept (c.run_trains.ensures ∙ ap (λ (micros : ℕ). with_trains_run micros (state_of drawn)) c.from.ensures) c.step.ensures.runs,
    )
