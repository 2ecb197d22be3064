use Rattle.railway.specs.Railway.{elapsed, is_sensed, is_sensed_in}
use Rattle.railway.proofs.Changing.{are-changes}
use Rattle.railway.proofs.laws.reports_are_changes.Goals as goal

pub returns : goal.returns
returns c = record {
  changes = λ railway micros power nodes.
      are-changes railway.network.blocks (is_sensed railway) (is_sensed_in railway micros power nodes) (is_sensed (elapsed railway micros power nodes));
}
