use Rattle.std.proofs.Common.{replicate}
use Rattle.bus.specs.Log.{Extends}
use Rattle.bus_server.specs.TransportEvents.{Refused}
use Rattle.bus_server.proofs.server.reject_pending.Given as goal

abbrev pub invariant-loop-refused : goal.invariant-loop-refused
invariant-loop-refused g l = Extends (g.W.Transport.log l.fn.transport) (g.W.Transport.log l.transport) (replicate l.refused Refused)
