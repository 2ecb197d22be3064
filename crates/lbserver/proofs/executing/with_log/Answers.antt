use Rattle.std.proofs.Common.{OnOk, ap, subst}
use Rattle.std.proofs.lemmas.Result.{on_ok_weaker}
use Rattle.server_orders.specs.declared.words.ServerOrder.{ServerOrder}
use Rattle.roster.specs.Decoders.{entries_of}
use Rattle.bus_server.specs.Snapshots.{state_of}
use Rattle.lbserver.specs.Execution.{ServesBy, pace_of}
use Rattle.lbserver.proofs.Orders.{same_order}
use Rattle.lbserver.proofs.executing.with_log.Goals as goal

pub returns-clause-serves : goal.returns-clause-serves
returns-clause-serves g c =
    let before = c.args.order.now in
    let now = c.open_page.new.order in
    let same = c.open_page.ensures.order in
    let start = state_of c.args.server.now.hub in
    on_ok_weaker c.serve-served.result
    (λ served. same_order now before (entries_of c.args.roster) start.railway start.programming (ap (λ (o : ServerOrder). pace_of o.turns o.rate) same) (ap (λ (o : ServerOrder). o.lose.items) same) (ap (λ (o : ServerOrder). o.seed) same) (ap (λ (o : ServerOrder). o.clients) same) c.serve-served.new.sockets.log.events c.serve-served.new.logs.clock.readings served)
    (subst (λ roster. OnOk c.serve-served.result (ServesBy now (entries_of roster) start.railway start.programming c.serve-served.new.sockets.log.events c.serve-served.new.logs.clock.readings)) c.new-printer.ensures.roster c.serve-served.ensures.serves)
