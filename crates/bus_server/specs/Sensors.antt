-- The railway and the programming track beside a bus, and what they report.
use Rattle.std.specs.Prelude.{ℕ, ◌≡◌, ◌≤◌, Bool, true, false, if◌then◌else◌, List, [], ◌++◌, Option, Some, None, Ok}
use Rattle.refresh_ring.specs.declared.pick.Power.{Power}
use Rattle.layout_core.specs.declared.node.Node.{Node}
use Rattle.ln_ops.specs.Sensor.{begins_interrogation}
use Rattle.ln_ops.specs.declared.sensor.SensorReport.{SensorReport}
use Rattle.programming_track.specs.Bench.{BenchState}
use Rattle.bus.specs.declared.outcome.Outcome.{Outcome}
use Rattle.bus.specs.declared.outcome.Outcome.TheVariants.{DeviceRequested, PlaceRequested, Sent}
use Rattle.railway.specs.Course.{Happening, after, reports_of}
use Rattle.railway.specs.declared.turnout_report.TurnoutReport.{TurnoutReport}
use Rattle.railway.specs.Feedback.{full_turnouts, movements_in}
use Rattle.railway.specs.Railway.{RailwayState, elapsed, is_sensed, reports_in}
use Rattle.railway.specs.Reports.{full}
use Rattle.bus.specs.declared.event.Event.{Event}
use Rattle.bus.specs.declared.event.Event.TheVariants.{Connects, Receives, Disconnects, Reports, Programs, Elapses, Turn}
use Rattle.bus.specs.Bus.{BusState, after_event, outcome_of}
use Rattle.bus_server.specs.declared.device_report.DeviceReport.{DeviceReport}
use Rattle.bus_server.specs.DeviceReports.{IsNext, of_ends, of_sensors, of_turnouts}
use Rattle.bus_server.specs.Failures.{happened_to, happening_by}
use Rattle.bus_server.specs.Placement.{places}
use Rattle.bus_server.specs.Programming.{decoder_on, ends_elapsed, programming_elapsed, programming_requested}

-- the power of the track
abbrev pub power_of : BusState → Power
power_of bus = bus.station.powered.power

-- the railway, if there is one, after so many microseconds in which the decoders do this
abbrev pub railway_elapsed : Option RailwayState → (micros : ℕ) → Power → List Node
    → Option RailwayState
railway_elapsed None micros power nodes = None
railway_elapsed (Some railway) micros power nodes = Some (elapsed railway micros power nodes)

-- what its sensors report of that
abbrev pub reports_elapsed : Option RailwayState → (micros : ℕ) → Power → List Node
    → List SensorReport
reports_elapsed None micros power nodes = []
reports_elapsed (Some railway) micros power nodes = reports_in railway micros power nodes

-- what its turnouts report of that
abbrev pub movements_elapsed : Option RailwayState → (micros : ℕ) → Power → List Node
    → List TurnoutReport
movements_elapsed None micros power nodes = []
movements_elapsed (Some railway) micros power nodes = movements_in railway micros power nodes

-- a report of each sensor
abbrev pub full_report : Option RailwayState → List SensorReport
full_report None = []
full_report (Some railway) = full railway.network.blocks (is_sensed railway)

-- a report of each turnout with feedback that lies
abbrev pub turnout_report : Option RailwayState → List TurnoutReport
turnout_report None = []
turnout_report (Some railway) = full_turnouts railway.network.turnouts

-- what an interrogation makes due: of the sensors first
abbrev pub full_reports : Option RailwayState → List DeviceReport
full_reports railway = of_sensors (full_report railway) ++ of_turnouts (turnout_report railway)

-- a message asks all sensors to report
abbrev pub asks_sensors : Outcome → Bool
asks_sensors (Sent client message reply) = begins_interrogation message
asks_sensors other = false

-- the railway after an outcome: a client may put a train on the track, or let a sensor or a turnout
-- fail
abbrev pub railway_requested : (names : List (List ℕ)) → Outcome → Option RailwayState
    → Option RailwayState
railway_requested names (PlaceRequested client (Ok placement)) (Some railway) =
    Some (after railway (places names railway placement))
railway_requested names (DeviceRequested client request) railway =
    happened_to (happening_by request) railway
railway_requested names other railway = railway

-- what is due after what happens to a railway: its reports; else what was due before
abbrev pub due_of : Option Happening → Option RailwayState → List DeviceReport → List DeviceReport
due_of None railway unreported = unreported
due_of (Some happening) None unreported = unreported
due_of (Some happening) (Some railway) unreported = of_sensors (reports_of railway happening)

-- What is due then: all, if a message asks for that; each change, if a train was put there or a sensor
-- fails; else what was due before.
abbrev pub reports_due : (names : List (List ℕ)) → Outcome → Option RailwayState
    → List DeviceReport → List DeviceReport
reports_due names (Sent client message reply) railway unreported =
    if begins_interrogation message then full_reports railway else unreported
reports_due names (PlaceRequested client (Ok placement)) (Some railway) unreported =
    of_sensors (reports_of railway (places names railway placement))
reports_due names (DeviceRequested client request) railway unreported =
    due_of (happening_by request) railway unreported
reports_due names other railway unreported = unreported

-- The decoders that trains run by in the time of an event. A time ends with the turn under way or
-- before it. A turn that is run by itself is run whole: what its packet made of the decoders counts.
abbrev pub running_in : Event → (old new : List Node) → List Node
running_in (Turn missed) old new = new
running_in other old new = old

-- how long a turn lasts that begins now
abbrev pub next_turn : BusState → ℕ
next_turn bus = (after_event bus (Turn 0)).remaining

-- The railway after an event: in its time trains run as these decoders do, with the power that the
-- track has then.
abbrev pub railway_after : (names : List (List ℕ)) → BusState → List Node → Event
    → Option RailwayState → Option RailwayState
railway_after names bus nodes (Elapses micros missed) railway =
    railway_elapsed railway micros (power_of bus) nodes
railway_after names bus nodes (Turn missed) railway =
    railway_elapsed railway (next_turn bus) (power_of bus) nodes
railway_after names bus nodes (Receives client byte) railway =
    railway_requested names (outcome_of bus (Receives client byte)) railway
railway_after names bus nodes other railway = railway

-- The programming track after an event: its packets take time, with or without power of the track.
abbrev pub programming_after : BusState → Event → Option BenchState → Option BenchState
programming_after bus (Elapses micros missed) programming = programming_elapsed programming micros
programming_after bus (Turn missed) programming = programming_elapsed programming (next_turn bus)
programming_after bus (Receives client byte) programming =
    programming_requested (outcome_of bus (Receives client byte)) programming
programming_after bus other programming = programming

-- what is reported of a time: the changes of the sensors, then of the turnouts, and then of the
-- programming track
abbrev pub reports_of_time : Option RailwayState → Option BenchState → (micros : ℕ) → Power
    → List Node → List DeviceReport
reports_of_time railway programming micros power nodes =
    of_sensors (reports_elapsed railway micros power nodes)
    ++ (of_turnouts (movements_elapsed railway micros power nodes)
    ++ of_ends (decoder_on programming) (ends_elapsed programming micros))

-- What an event makes due: what is reported of its time, and what its outcome makes due.
abbrev pub reports_after : (names : List (List ℕ)) → BusState → List Node → Event
    → Option RailwayState → Option BenchState → List DeviceReport
reports_after names bus nodes (Connects client) railway programming = []
reports_after names bus nodes (Disconnects client) railway programming = []
reports_after names bus nodes (Reports message) railway programming = []
reports_after names bus nodes (Programs packet change) railway programming = []
reports_after names bus nodes (Receives client byte) railway programming =
    reports_due names (outcome_of bus (Receives client byte)) railway []
reports_after names bus nodes (Elapses micros missed) railway programming =
    reports_of_time railway programming micros (power_of bus) nodes
reports_after names bus nodes (Turn missed) railway programming =
    reports_of_time railway programming (next_turn bus) (power_of bus) nodes

-- What is due before an event and after it: each is an event, in order, and no other event happens
-- before. It makes others due.
abbrev pub IsDue : Event → (made old new : List DeviceReport) → Type 0
IsDue (Reports message) made old new = IsNext (Reports message) old new
IsDue (Programs packet change) made old new = IsNext (Programs packet change) old new
IsDue other made old new = (old ≡ []) × (new ≡ made)

-- A time ends with the turn under way or before it, so that the decoders do the same in all of it.
abbrev pub IsWithinTurn : Event → BusState → Type 0
IsWithinTurn (Elapses micros missed) bus = micros ≤ bus.remaining
IsWithinTurn other bus = Unit {0}

-- a device beside the station reports: a sensor, or the programming track
abbrev pub is_report : Event → Bool
is_report (Reports message) = true
is_report (Programs packet change) = true
is_report other = false
