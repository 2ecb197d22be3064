use Rattle.std.proofs.Common.{◌∷◌, refl}
use Rattle.bus_server.specs.Observations.{Observed, Observation}
use Rattle.bus_server.specs.Snapshots.{state_of}
use Rattle.bus_server.specs.ServerState.{LoggedEvent}
use Rattle.bus_server.proofs.Stepping.{client_runs}
use Rattle.bus_server.proofs.server.Server.apply.Goals as goal

pub returns-clause-happened : goal.returns-clause-happened
returns-clause-happened g c =
    let event = c.args.event in
    let old = state_of c.args.self.now.hub in
    let mid = state_of c.step-outcome.new.self in
    let observed : Observation = Observed c.step-outcome.result c.step-outcome.new.self.bus.world.nodes c.step-outcome.new.self.sensors.railway in
    let one : LoggedEvent = record { event = event; observed = observed } in
    let happens = client_runs event observed old mid c.requires.clients c.requires.ready.1 c.step-outcome.ensures.runs in
    let reports = c.observe.ensures.log in
    (one ∷ reports.0, reports.1, (c.requires.place, (refl, reports.2), (mid, happens, reports.3)))

pub returns-in_err-observe-clause-happened : goal.returns-in_err-observe-clause-happened
returns-in_err-observe-clause-happened g c =
    let event = c.args.event in
    let old = state_of c.args.self.now.hub in
    let mid = state_of c.step-outcome.new.self in
    let observed : Observation = Observed c.step-outcome.result c.step-outcome.new.self.bus.world.nodes c.step-outcome.new.self.sensors.railway in
    let one : LoggedEvent = record { event = event; observed = observed } in
    let happens = client_runs event observed old mid c.requires.clients c.requires.ready.1 c.step-outcome.ensures.runs in
    let reports = c.observe.ensures.log in
    (one ∷ reports.0, reports.1, (c.requires.place, (refl, reports.2), (mid, happens, reports.3)))
