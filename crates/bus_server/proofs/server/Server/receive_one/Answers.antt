use Rattle.std.proofs.Common.{ap, inr, sym, ◌∙◌}
use Rattle.bus_server.specs.ServerState.{with_backlog}
use Rattle.bus_server.specs.TrackDue.{must_wait}
use Rattle.bus_server.specs.Snapshots.{state_of}
use Rattle.bus_server.proofs.Nothings.{nothing_received}
use Rattle.bus_server.proofs.server.Server.receive_one.Goals as goal

pub returns-in-Nothing-clause-happened : goal.returns-in-Nothing-clause-happened
returns-in-Nothing-clause-happened g c =
    let old = state_of c.args.self.now.hub in
    let new = state_of c.apply.new.self.hub in
    let does = c.apply.ensures.happened in
    let same = nothing_received c.args.client c.args.byte does.0 (with_backlog old) new (sym c.in_ok-outcome.ensures.outcome ∙ c.in-Nothing.is) does.2 in
    ((ap (λ turns. must_wait turns c.args.client) same.1 ∙ c.requires.waits, inr same.0), (does.0, does.1, (c.requires.waits, does.2)))
