use Rattle.bus_server.proofs.Ordering.{order_decides}
use Rattle.bus_server.proofs.Repeating.{runs_repeat}
use Rattle.bus_server.proofs.laws.runs_repeat.Goals as goal

pub returns : goal.returns
returns c = record { repeat = runs_repeat; in_order = order_decides }
