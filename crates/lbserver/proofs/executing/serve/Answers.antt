use Rattle.std.proofs.Common.{ap}
use Rattle.roster.specs.Decoders.{entries_of}
use Rattle.bus_server.specs.Snapshots.{state_of}
use Rattle.sockets.specs.declared.call_log.CallLog.{CallLog}
use Rattle.lbserver.proofs.Orders.{all_returned}
use Rattle.lbserver.proofs.executing.serve.Goals as goal

pub returns-in-Ok-served-clause-serves : goal.returns-in-Ok-served-clause-serves
returns-in-Ok-served-clause-serves g c =
    let start = state_of c.args.server.now.hub in
    all_returned c.args.order.now (entries_of c.args.printer.now.roster) start.railway start.programming c.args.sockets.now.log.events
    c.serve_on-served.new.transport.log.events c.in-Ok.clock.log.readings c.serve_on-served.new.clock.log.readings c.into_log-logs.result.readings
    c.requires.new c.in-Ok.ensures (ap (λ (log : CallLog). log.readings) c.into_log-logs.ensures) c.in-Ok-served.ensures.serves
