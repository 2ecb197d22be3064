use Rattle.std.proofs.Common.{◌≡◌, ◌-◌, ℕ, ap, arith}
use Rattle.bus_server.specs.Snapshots.{state_of}
use Rattle.bus_server.specs.Track.{with_time_due}
use Rattle.bus_server.proofs.server.Server.run_time.Goals as goal

pub returns-clause-happened : goal.returns-clause-happened
returns-clause-happened g c =
    let owed = c.args.self.now.hub.track_due.micros in
    let ran = c.in_ok-rest.ensures.happened in
    let left : c.in_ok-rest.rest ≡ owed - ran.2.1 = omega (arith, ran.2.2) in
    (ran.0, ran.1, (ran.2.0, ran.2.1, state_of c.run_pieces.new.self.hub, ran.2.3, ran.2.4, ran.2.5, ap (λ (micros : ℕ). with_time_due micros (state_of c.run_pieces.new.self.hub)) left))
