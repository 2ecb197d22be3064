-- What happens to a railway, and what the sensors report of it.
use Rattle.std.specs.Prelude.{ℕ, ◌++◌, Bool, List, [], ◌∷◌, Option, Some, None}
use Rattle.layout_core.specs.declared.node.Node.{Node}
use Rattle.refresh_ring.specs.declared.pick.Power.{Power}
use Rattle.ln_ops.specs.declared.sensor.SensorReport.{SensorReport}
use Rattle.railway.specs.declared.fault.PlaceFault.{PlaceFault}
use Rattle.railway.specs.declared.train.Position.{Position}
use Rattle.railway.specs.declared.turnout_report.TurnoutReport.{TurnoutReport}
use Rattle.railway.specs.Failures.{block_with, none_failing, with_failing, with_sensor}
use Rattle.railway.specs.Feedback.{movements}
use Rattle.railway.specs.Railway.{RailwayState, elapsed, is_sensed, place_fault, placed_in, reports_in}
use Rattle.railway.specs.Reports.{changes}

-- so many microseconds pass in which the decoders do this, with power or without; somebody tries to
-- place a train; or a sensor or a turnout fails, or all failures end
pub data Happening : Type 0 where
  Elapses : (micros : ℕ) (power : Power) (nodes : List Node) → Happening
  Places : (train : ℕ) (position : Position) → Happening
  SensorFails : (sensor : ℕ) (occupied : Bool) → Happening
  TurnoutFails : (switch : ℕ) → Happening
  FailuresEnd : Happening

-- a train that cannot be placed stays where it is
abbrev pub unless_refused : Option PlaceFault → (placed railway : RailwayState) → RailwayState
unless_refused None placed railway = placed
unless_refused (Some fault) placed railway = railway

-- a sensor that no block has does not fail
abbrev pub sensor_failed : Option ℕ → (occupied : Bool) → RailwayState → RailwayState
sensor_failed None occupied railway = railway
sensor_failed (Some block) occupied railway =
    record railway { failing = with_sensor railway.failing block occupied }

abbrev pub after : RailwayState → Happening → RailwayState
after railway (Elapses micros power nodes) = elapsed railway micros power nodes
after railway (Places train position) =
    unless_refused (place_fault railway train position) (placed_in railway train position) railway
after railway (SensorFails sensor occupied) =
    sensor_failed (block_with sensor railway.network.blocks) occupied railway
after railway (TurnoutFails switch) =
    record railway { network = with_failing (Some switch) railway.network }
after railway FailuresEnd =
    record railway { network = with_failing None railway.network; failing = none_failing }

abbrev pub after_all : RailwayState → List Happening → RailwayState
after_all railway [] = railway
after_all railway (happening ∷ happenings) = after_all (after railway happening) happenings

abbrev pub reports_of : RailwayState → Happening → List SensorReport
reports_of railway (Elapses micros power nodes) = reports_in railway micros power nodes
reports_of railway other =
    changes railway.network.blocks (is_sensed railway) (is_sensed (after railway other))

-- what turnouts report of it
abbrev pub movements_of : RailwayState → Happening → List TurnoutReport
movements_of railway happening =
    movements railway.network.turnouts (after railway happening).network.turnouts

abbrev pub movements_of_all : RailwayState → List Happening → List TurnoutReport
movements_of_all railway [] = []
movements_of_all railway (happening ∷ happenings) =
    movements_of railway happening ++ movements_of_all (after railway happening) happenings

-- all that sensors report, in order
abbrev pub reports_of_all : RailwayState → List Happening → List SensorReport
reports_of_all railway [] = []
reports_of_all railway (happening ∷ happenings) =
    reports_of railway happening ++ reports_of_all (after railway happening) happenings
