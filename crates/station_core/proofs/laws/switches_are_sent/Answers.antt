use Rattle.station_core.specs.Promises.{IsRunning}
use Rattle.station_core.specs.Seen.{known_of, scheduled}
use Rattle.station_core.proofs.Agreeing.{agree_at_first, moments}
use Rattle.station_core.proofs.Switches.{packets_in_front}
use Rattle.station_core.proofs.Walks.{all_sent}
use Rattle.station_core.proofs.laws.switches_are_sent.Goals as goal

pub returns : goal.returns
returns c = λ start calls legal running enough.
    packets_in_front start calls
    (all_sent c.switches_in_order.ensures.falls c.switches_in_order.ensures.done c.switches_in_order.ensures.changed_behind c.switches_in_order.ensures.asked_behind start calls (c.switches_in_order.ensures.most (scheduled start) legal.queue)
    (moments (record { message = c.left_is_enough.ensures.message; unfinished = c.left_is_enough.ensures.unfinished; once = c.left_is_enough.ensures.once })
    IsRunning start (known_of start) calls (agree_at_first start) running)
    enough)
