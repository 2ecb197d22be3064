use Rattle.bus_server.specs.Snapshots.{state_of}
use Rattle.bus_server.proofs.Stepping.{turn_runs}
use Rattle.bus_server.proofs.hub.Hub.turn.Goals as goal

pub returns-clause-happens : goal.returns-clause-happens
returns-clause-happens c =
    let missed = c.draw-missed.result in
    let drawn = c.draw-missed.new.self in (
      missed,
      turn_runs c.remaining-lasts.result missed c.step-outcome.result drawn.losses
          (state_of c.args.self.now) (state_of drawn) (state_of c.step-outcome.new.self) (state_of c.run_trains.new.self)
          c.remaining-lasts.ensures.remaining c.requires.reported c.draw-missed.ensures.drawn c.draw-missed.ensures.kept
          c.step-outcome.ensures.runs c.step-outcome.ensures.outcome c.run_trains.ensures,
    )
