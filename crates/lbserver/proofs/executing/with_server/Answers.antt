use Rattle.std.proofs.Common.{OnOk, ap, subst}
use Rattle.roster.specs.Decoders.{entries_of}
use Rattle.bus_server.specs.ServerState.{ServerState}
use Rattle.lbserver.specs.Execution.{ServesOrder}
use Rattle.lbserver.proofs.executing.with_server.Goals as goal

-- the server's railway and programming track are those that it is given
pub returns-clause-serves : goal.returns-clause-serves
returns-clause-serves g c =
    subst (λ programming. OnOk c.with_sockets.result (ServesOrder c.args.order.now (entries_of c.args.roster) c.args.railway programming c.with_sockets.new.logs))
    (ap (λ (state : ServerState). state.programming) c.in_ok-server.ensures.hub)
    (subst (λ railway. OnOk c.with_sockets.result (ServesOrder c.args.order.now (entries_of c.args.roster) railway c.in_ok-server.server.hub.sensors.programming c.with_sockets.new.logs))
    (ap (λ (state : ServerState). state.railway) c.in_ok-server.ensures.hub) c.with_sockets.ensures.serves)
