use Rattle.std.proofs.Common.{ap, ◌∙◌}
use Rattle.railway.specs.Railway.{RailwayState, is_sensed}
use Rattle.railway.specs.Reports.{changes}
use Rattle.railway.proofs.railway.Railway.place.Goals as goal

pub returns-clause-reports : goal.returns-clause-reports
returns-clause-reports c =
    c.changes_since.ensures.reports (is_sensed c.args.self.now) c.sensed-before.ensures
    ∙ ap (λ (r : RailwayState). changes r.network.blocks (is_sensed c.args.self.now) (is_sensed c.put.new.self)) c.put.ensures
