use Rattle.std.proofs.Common.{◌≡◌, List, Option, None, Some, ℕ, false, refl, ap, sym, ◌∙◌}
use Rattle.std.specs.Prelude.{is_some}
use Rattle.ln_ops.specs.declared.sensor.SensorReport.{SensorReport}
use Rattle.railway.specs.Course.{Happening}
use Rattle.railway.specs.Course.Happening.{SensorFails}
use Rattle.railway.specs.Failures.{block_with}
use Rattle.railway.specs.Railway.{RailwayState}
use Rattle.bus_server.specs.DeviceReports.{of_sensors, queue_of}
use Rattle.bus_server.specs.Sensors.{due_of}
use Rattle.bus_server.proofs.Naming.{unknown_reports}
use Rattle.bus_server.proofs.sensors.Sensors.fail_sensor.Goals as goal

none-is : (found : Option ℕ) → is_some found ≡ false → found ≡ None
none-is None h = refl
none-is (Some block) h = cc

pub returns-in-None-fail_sensor-clause-unreported : goal.returns-in-None-fail_sensor-clause-unreported
returns-in-None-fail_sensor-clause-unreported c =
    let railway : RailwayState = c.in-Some.railway in
    let sensor : ℕ = c.args.sensor in
    let fails : Happening = SensorFails sensor c.args.occupied in
    let known = sym c.fail_sensor.ensures.known ∙ ap (λ found. is_some found) c.in-None-fail_sensor.is in
    let none : block_with sensor railway.network.blocks ≡ None = none-is (block_with sensor railway.network.blocks) known in
    c.none-self.ensures
    ∙ ap (λ (reports : List SensorReport). of_sensors reports) (unknown_reports railway sensor c.args.occupied none)
    ∙ sym (ap (λ (r : Option RailwayState). due_of (Some fails) r (queue_of c.args.self.now.unreported)) c.in-Some.is)
