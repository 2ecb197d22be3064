-- Sensors and turnouts of the railway that fail as a client asks for.
use Rattle.std.specs.Prelude.{ℕ, Bool, if◌then◌else◌, is_some, Option, Some, None, Result, Ok, Err}
use Rattle.loconet_tcp.specs.declared.request.DeviceRequest.{DeviceRequest}
use Rattle.loconet_tcp.specs.declared.request.DeviceRequest.TheVariants.{Mount, Fail}
use Rattle.loconet_tcp.specs.declared.request.FailError.{FailError}
use Rattle.loconet_tcp.specs.declared.request.FailError.TheVariants.{NoPlan, UnknownSensor, UnknownTurnout}
use Rattle.loconet_tcp.specs.declared.request.Failure.{Failure}
use Rattle.loconet_tcp.specs.declared.request.Failure.TheVariants.{Programming, Sensor, Turnout}
use Rattle.railway.specs.Course.{Happening, after}
use Rattle.railway.specs.Course.Happening.{FailuresEnd, SensorFails, TurnoutFails}
use Rattle.railway.specs.Failures.{block_with, has_switch}
use Rattle.railway.specs.Railway.{RailwayState}

-- what happens to a railway as this fails, or as all failures end
abbrev pub happening_of : Option Failure → Option Happening
happening_of None = Some FailuresEnd
happening_of (Some Programming) = None
happening_of (Some (Sensor sensor occupied)) = Some (SensorFails sensor occupied)
happening_of (Some (Turnout switch)) = Some (TurnoutFails switch)

-- what happens to it as a client arranges the devices
abbrev pub happening_by : DeviceRequest → Option Happening
happening_by (Mount decoder) = None
happening_by (Fail (Err error)) = None
happening_by (Fail (Ok failure)) = happening_of failure

-- the railway, if there is one, after what happens, if anything does
abbrev pub happened_to : Option Happening → Option RailwayState → Option RailwayState
happened_to None railway = railway
happened_to (Some happening) None = None
happened_to (Some happening) (Some railway) = Some (after railway happening)

abbrev pub unless_unknown : (known : Bool) → FailError → Result (Unit {0}) FailError
unless_unknown known error = if known then Ok tt else Err error

-- the answer to a client: the sensor fails, or why it does not
abbrev pub sensor_answer : Option RailwayState → (sensor : ℕ) → Result (Unit {0}) FailError
sensor_answer None sensor = Err NoPlan
sensor_answer (Some railway) sensor =
    unless_unknown (is_some (block_with sensor railway.network.blocks)) UnknownSensor

-- and that of a turnout
abbrev pub turnout_answer : Option RailwayState → (switch : ℕ) → Result (Unit {0}) FailError
turnout_answer None switch = Err NoPlan
turnout_answer (Some railway) switch =
    unless_unknown (has_switch railway.network.turnouts switch) UnknownTurnout
