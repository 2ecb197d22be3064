use Rattle.std.proofs.Common.{List, None, Some, ℕ}
use Rattle.std.specs.Prelude.{IsTrue}
use Rattle.layout_core.specs.declared.node.Node.{Node}
use Rattle.refresh_ring.specs.declared.pick.Power.{Power}
use Rattle.railway.specs.Course.{Happening, after}
use Rattle.railway.specs.Course.Happening.{Elapses, FailuresEnd, Places, SensorFails, TurnoutFails}
use Rattle.railway.specs.Railway.{RailwayState, elapsed, is_railway}
use Rattle.railway.specs.Failures.{block_with}
use Rattle.railway.proofs.Faulty.{failing-railway, sensor-railway}
use Rattle.railway.proofs.Placing.{places-railway, same-blocks}
use Rattle.railway.proofs.Reporting.{of-plan}
use Rattle.railway.proofs.laws.railways_are_kept.Goals as goal

kept : ((railway : RailwayState) (power : Power) (nodes : List Node) (micros : ℕ) → IsTrue (is_railway railway) → IsTrue (is_railway (elapsed railway micros power nodes)))
    → (railway : RailwayState) (happening : Happening) → IsTrue (is_railway railway) → IsTrue (is_railway (after railway happening))
kept runs railway (Elapses micros power nodes) is = runs railway power nodes micros is
kept runs railway (Places train position) is = places-railway railway train position is
kept runs railway (SensorFails sensor occupied) is = sensor-railway railway (block_with sensor railway.network.blocks) occupied is
kept runs railway (TurnoutFails switch) is = failing-railway railway (Some switch) is
kept runs railway FailuresEnd is = failing-railway railway None is

pub returns : goal.returns
returns c = record { kept = kept c.time_adds_up.ensures.kept; blocks = same-blocks; turnouts = of-plan }
