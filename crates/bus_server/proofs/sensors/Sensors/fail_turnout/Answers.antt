use Rattle.std.proofs.Common.{◌≡◌, List, [], Option, Some, ℕ, ap, sym, ◌∙◌}
use Rattle.ln_ops.specs.declared.sensor.SensorReport.{SensorReport}
use Rattle.railway.specs.Course.Happening.{TurnoutFails}
use Rattle.railway.specs.Railway.{RailwayState}
use Rattle.bus_server.specs.declared.device_report.DeviceReport.{DeviceReport}
use Rattle.bus_server.specs.DeviceReports.{of_sensors, queue_of}
use Rattle.bus_server.specs.Sensors.{due_of}
use Rattle.bus_server.proofs.Naming.{turnout_reports}
use Rattle.bus_server.proofs.sensors.Sensors.fail_turnout.Goals as goal

-- a turnout that fails makes nothing due
none_due : (now : Option RailwayState) (railway : RailwayState) (switch : ℕ) (before after : List DeviceReport) → now ≡ Some railway → after ≡ [] → after ≡ due_of (Some (TurnoutFails switch)) now before
none_due now railway switch before after is none =
    none ∙ ap (λ (reports : List SensorReport). of_sensors reports) (turnout_reports railway switch)
    ∙ sym (ap (λ (r : Option RailwayState). due_of (Some (TurnoutFails switch)) r before) is)

pub returns-then-fail_turnout-clause-unreported : goal.returns-then-fail_turnout-clause-unreported
returns-then-fail_turnout-clause-unreported c =
    none_due c.args.self.now.railway c.in-Some.railway c.args.switch (queue_of c.args.self.now.unreported) (queue_of c.none-self.result) c.in-Some.is c.none-self.ensures

pub returns-else-fail_turnout-clause-unreported : goal.returns-else-fail_turnout-clause-unreported
returns-else-fail_turnout-clause-unreported c =
    none_due c.args.self.now.railway c.in-Some.railway c.args.switch (queue_of c.args.self.now.unreported) (queue_of c.none-self.result) c.in-Some.is c.none-self.ensures
