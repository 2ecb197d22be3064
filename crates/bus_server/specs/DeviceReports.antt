-- What devices beside the station are still to report.
use Rattle.std.specs.Prelude.{◌≡◌, Bool, true, List, [], ◌∷◌, ◌++◌, map, Option, Some, None}
use Rattle.std.specs.List.{flat_map}
use Rattle.ln_ops.specs.Sensor.{report_bytes}
use Rattle.ln_ops.specs.declared.sensor.SensorReport.{SensorReport}
use Rattle.arrayvec.specs.ArrayString.{ArrayString}
use Rattle.service_mode.specs.Spelling.{is_legal_packet}
use Rattle.programmer.specs.declared.task_result.TaskResult.{TaskResult}
use Rattle.programmer.specs.Requests.{is_legal_result, result_bytes}
use Rattle.programming_track.specs.declared.packet_end.PacketEnd.{PacketEnd}
use Rattle.railway.specs.declared.turnout_report.TurnoutReport.{TurnoutReport}
use Rattle.railway.specs.Feedback.{turnout_report_bytes}
use Rattle.railway.specs.Reports.{is_report}
use Rattle.bus.specs.declared.event.Event.{Event}
use Rattle.bus.specs.declared.event.Event.TheVariants.{Reports, Programs}
use Rattle.bus_server.specs.declared.device_report.DeviceReport.{DeviceReport}
use Rattle.bus_server.specs.declared.device_report.DeviceReport.TheVariants.{Sensor, Turnout, Packet, Ended}
use Rattle.bus_server.specs.declared.device_reports.DeviceReports.{DeviceReports}
use Rattle.bus_server.specs.Programming.{named}

-- the event of the bus
abbrev pub event_of : DeviceReport → Event
event_of (Sensor report) = Reports (report_bytes report.sensor report.occupied)
event_of (Turnout report) = Reports (turnout_report_bytes report)
event_of (Packet packet change) = Programs packet change
event_of (Ended ended) = Reports (result_bytes ended)

-- a sensor is one of 1 to 4096, and a packet and a result can be made
abbrev pub is_legal_report : DeviceReport → Bool
is_legal_report (Sensor report) = is_report report
is_legal_report (Turnout report) = true
is_legal_report (Packet packet change) = is_legal_packet packet
is_legal_report (Ended ended) = is_legal_result ended

-- what sensors report
abbrev pub of_sensors : List SensorReport → List DeviceReport
of_sensors reports = map (λ report. Sensor report) reports

-- what turnouts report
abbrev pub of_turnouts : List TurnoutReport → List DeviceReport
of_turnouts reports = map (λ report. Turnout report) reports

-- what ended a task
abbrev pub of_result : Option TaskResult → List DeviceReport
of_result None = []
of_result (Some ended) = Ended ended ∷ []

-- of a packet that has been sent to this decoder: the packet, with the change that it made, and then
-- the result if it was the last of its task
abbrev pub of_end : (decoder : Option ArrayString) → PacketEnd → List DeviceReport
of_end decoder one = Packet one.packet (named decoder one.change) ∷ of_result one.result

abbrev pub of_ends : (decoder : Option ArrayString) → List PacketEnd → List DeviceReport
of_ends decoder ends = flat_map (of_end decoder) ends

-- all that is still to report: of the sensors, of the turnouts, of the task that has ended, and of the
-- packets after it
abbrev pub queue_of : DeviceReports → List DeviceReport
queue_of items =
    of_sensors items.reports.items
    ++ (of_turnouts items.turnouts.items
    ++ (of_result items.ended ++ of_ends items.decoder items.ends.items))

-- the reports of sensors among them
abbrev pub sensors_in : List DeviceReport → List SensorReport
sensors_in [] = []
sensors_in (Sensor report ∷ items) = report ∷ sensors_in items
sensors_in (Turnout report ∷ items) = sensors_in items
sensors_in (Packet packet change ∷ items) = sensors_in items
sensors_in (Ended ended ∷ items) = sensors_in items

-- and those of turnouts
abbrev pub turnouts_in : List DeviceReport → List TurnoutReport
turnouts_in [] = []
turnouts_in (Sensor report ∷ items) = turnouts_in items
turnouts_in (Turnout report ∷ items) = report ∷ turnouts_in items
turnouts_in (Packet packet change ∷ items) = turnouts_in items
turnouts_in (Ended ended ∷ items) = turnouts_in items

-- The first of them is the event, and the others stay.
abbrev pub IsNext : Event → (old new : List DeviceReport) → Type 0
IsNext event old new =
    (report : DeviceReport) × (old ≡ report ∷ new) × (is_legal_report report ≡ true) × (event_of report ≡ event)
