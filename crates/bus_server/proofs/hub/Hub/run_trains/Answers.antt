use Rattle.std.proofs.Common.{ℕ, List, Option, ap, ap₂, ◌∙◌}
use Rattle.layout_core.specs.declared.world.World.{World}
use Rattle.programming_track.specs.Bench.{BenchState}
use Rattle.railway.specs.Railway.{RailwayState}
use Rattle.bus_server.specs.declared.device_report.DeviceReport.{DeviceReport}
use Rattle.bus_server.specs.Snapshots.{state_of}
use Rattle.bus_server.specs.Sensors.{reports_of_time, railway_elapsed}
use Rattle.bus_server.proofs.hub.Hub.run_trains.Goals as goal

pub returns : goal.returns
returns c =
    let old = c.args.self.now in
    let micros : ℕ = c.args.micros in
    let layout = c.world.ensures in
    ap₂ (λ (railway : Option RailwayState) (unreported : List DeviceReport). record (state_of old) { railway = railway; programming = c.elapse.new.self.programming; unreported = unreported })
    (c.elapse.ensures.railway ∙ ap (λ (world : World). railway_elapsed old.sensors.railway micros world.station.powered.power world.nodes) layout)
    (c.elapse.ensures.unreported ∙ ap (λ (world : World). reports_of_time old.sensors.railway old.sensors.programming micros world.station.powered.power world.nodes) layout)
    ∙ ap (λ (programming : Option BenchState). record (state_of old) {
      railway = railway_elapsed old.sensors.railway micros old.bus.world.station.powered.power old.bus.world.nodes;
      programming = programming;
      unreported = reports_of_time old.sensors.railway old.sensors.programming micros old.bus.world.station.powered.power old.bus.world.nodes;
    }) c.elapse.ensures.programming
