use Rattle.std.proofs.Common.{refl, subst}
use Rattle.bus.specs.declared.event.Event.{Event}
use Rattle.bus_server.specs.DeviceReports.{event_of, queue_of}
use Rattle.bus_server.specs.Hub.{RunsOnBus}
use Rattle.bus_server.specs.Observations.{Observed}
use Rattle.bus_server.specs.Snapshots.{state_of}
use Rattle.bus_server.proofs.Stepping.{is_device_report, report_runs, without_first}
use Rattle.bus_server.proofs.hub.Hub.report.Goals as goal

pub returns-clause-happens : goal.returns-clause-happens
returns-clause-happens c =
    let report = c.in_ok-next.field-0 in
    let old = state_of c.args.self.now in
    let rest = queue_of c.next.new.self in
    let observed = Observed c.step.result c.step.new.self.bus.world.nodes c.step.new.self.sensors.railway in (
      event_of report,
      is_device_report report,
      report_runs report rest observed old (without_first rest old) (state_of c.step.new.self) c.in_ok-next.ensures.first c.in_ok-next.ensures.legal refl
          (subst (λ (event : Event). RunsOnBus event observed (without_first rest old) (state_of c.step.new.self)) c.event-event.ensures.value c.step.ensures.runs),
    )
