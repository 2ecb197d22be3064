use Rattle.station_core.proofs.Switches.{packets_in_order}
use Rattle.station_core.proofs.Walks.{in_order}
use Rattle.station_core.proofs.laws.switches_in_order.Goals as goal

pub returns : goal.returns
returns c start calls =
    packets_in_order start calls
    (in_order c.switches_in_order.ensures.turn c.switches_in_order.ensures.changed c.switches_in_order.ensures.asked c.switches_in_order.ensures.refused start calls)
