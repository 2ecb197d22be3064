use Rattle.std.proofs.Common.{rules}
use Rattle.bus_server.specs.Snapshots.{state_of}
use Rattle.std.specs.Prelude.{option_copied}
use Rattle.bus_server.proofs.Going.{observes_first, observes_more, seen_layout}
use Rattle.bus_server.proofs.server.Server.observe.Goals as goal

pub loop-report-init : goal.loop-report-init
loop-report-init g c =
    let observed = g.P.Observer.observed in
    let hub = c.args.self.now.hub in
    record {
      observes = search rules;
      log = observes_first c.args.outcome.now (observed c.args.observer.now) (observed c.observe.new.self) (state_of hub)
          (seen_layout (observed c.args.observer.now) (observed c.observe.new.self) c.args.outcome.now c.world.result.now hub.bus.world (option_copied c.railway.result) hub.sensors.railway c.world.ensures c.railway.ensures c.observe.ensures.observed);
    }

pub loop-report-preserved : goal.loop-report-preserved
loop-report-preserved g c =
    let observed = g.P.Observer.observed in
    let first = c.loop-report in
    let happens = c.in-Some.ensures.happens in
    let hub = c.report.new.self in
    record {
      observes = search rules;
      log = observes_more c.args.outcome.now c.in-Some.report happens.0 (observed c.args.observer.now) (observed first.observer) (observed c.observe-in-Some.new.self) (state_of c.args.self.now.hub) (state_of first.self.hub) (state_of hub)
          happens.1 first.invariant.log happens.2
          (seen_layout (observed first.observer) (observed c.observe-in-Some.new.self) c.in-Some.report c.world-in-Some.result.now hub.bus.world (option_copied c.railway-in-Some.result) hub.sensors.railway c.world-in-Some.ensures c.railway-in-Some.ensures c.observe-in-Some.ensures.observed);
    }

pub returns-in_err-observe-2-clause-log : goal.returns-in_err-observe-2-clause-log
returns-in_err-observe-2-clause-log g c =
    let observed = g.P.Observer.observed in
    let first = c.loop-report in
    let happens = c.in-Some.ensures.happens in
    let hub = c.report.new.self in
    observes_more c.args.outcome.now c.in-Some.report happens.0 (observed c.args.observer.now) (observed first.observer) (observed c.observe-in-Some.new.self) (state_of c.args.self.now.hub) (state_of first.self.hub) (state_of hub)
    happens.1 first.invariant.log happens.2
    (seen_layout (observed first.observer) (observed c.observe-in-Some.new.self) c.in-Some.report c.world-in-Some.result.now hub.bus.world (option_copied c.railway-in-Some.result) hub.sensors.railway c.world-in-Some.ensures c.railway-in-Some.ensures c.observe-in-Some.ensures.observed)
