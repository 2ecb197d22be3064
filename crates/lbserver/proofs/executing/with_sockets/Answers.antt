use Rattle.std.proofs.Common.{List, OnOk, ap, subst, sym}
use Rattle.roster.specs.Decoders.{entries_of}
use Rattle.bus_server.specs.Snapshots.{state_of}
use Rattle.bus_server.specs.TransportEvents.{TransportEvent}
use Rattle.sockets.specs.declared.call_log.CallLog.{CallLog}
use Rattle.lbserver.specs.Execution.{ServesBy}
use Rattle.lbserver.proofs.executing.with_sockets.Goals as goal

-- the log of the sockets is what they return when they are closed
pub returns-clause-serves : goal.returns-clause-serves
returns-clause-serves g c =
    let start = state_of c.args.server.now.hub in
    subst (λ (events : List TransportEvent). OnOk c.with_log-served.result (ServesBy c.args.order.now (entries_of c.args.roster) start.railway start.programming events c.with_log-served.new.logs.clock.readings))
    (sym (ap (λ (log : CallLog). log.events) c.close_all-logs.ensures)) c.with_log-served.ensures.serves
