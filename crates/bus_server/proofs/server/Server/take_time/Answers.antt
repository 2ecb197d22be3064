use Rattle.std.proofs.Common.{[], refl}
use Rattle.bus_server.proofs.Going.{grows_none}
use Rattle.bus_server.proofs.Tracking.{left_is_due}
use Rattle.bus_server.proofs.server.Server.take_time.Goals as goal

pub returns-then-self-gt0-clause-takes : goal.returns-then-self-gt0-clause-takes
returns-then-self-gt0-clause-takes g c =
    let left = c.args.self.now.hub.track_due.micros in
    ([], left, grows_none (g.C.TimeSource.readings c.args.clock.now), grows_none (g.P.Observer.observed c.args.observer.now), left_is_due c.args.rate left c.if-self-gt0.true, refl)
