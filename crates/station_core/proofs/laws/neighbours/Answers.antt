use Rattle.station_core.proofs.Apart.{neighbours}
use Rattle.station_core.proofs.Walks.{kept_call}
use Rattle.station_core.proofs.laws.neighbours.Goals as goal

pub returns : goal.returns
returns c start calls legal =
    neighbours c.neighbours.ensures.apart c.neighbours.ensures.last c.picks_are_due.ensures.is_due
    (kept_call c.switches_in_order.ensures.turn c.switches_in_order.ensures.changed c.switches_in_order.ensures.asked c.switches_in_order.ensures.refused)
    start calls legal.queue.legal
