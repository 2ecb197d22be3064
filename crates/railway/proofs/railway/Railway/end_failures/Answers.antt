use Rattle.std.proofs.Common.{◌≡◌, None, ap, ◌∙◌}
use Rattle.railway.specs.declared.failing_sensors.FailingSensors.{FailingSensors}
use Rattle.railway.specs.Course.{after}
use Rattle.railway.specs.Course.Happening.{FailuresEnd}
use Rattle.railway.specs.Failures.{none_failing, with_failing}
use Rattle.railway.specs.Railway.{RailwayState, is_sensed}
use Rattle.railway.specs.Reports.{changes}
use Rattle.railway.proofs.railway.Railway.end_failures.Goals as goal

ended : (c : goal.After-changes_since) → c.set_failing.new.self ≡ after c.args.self.now FailuresEnd
ended c =
    let old : RailwayState = record { network = c.self.inside.track; trains = c.self.inside.trains.items; failing = c.self.inside.failing } in
    c.set_failing.ensures
    ∙ ap (λ (failing : FailingSensors). record old { network = with_failing None old.network; failing = failing }) c.none-self-inside.ensures
    ∙ ap (λ (r : RailwayState). record r { network = with_failing None r.network; failing = none_failing }) c.self.view_is

pub returns-clause-reports : goal.returns-clause-reports
returns-clause-reports c =
    c.changes_since.ensures.reports (is_sensed c.args.self.now) c.sensed-before.ensures
    ∙ ap (λ (r : RailwayState). changes r.network.blocks (is_sensed c.args.self.now) (is_sensed r)) (ended c)
