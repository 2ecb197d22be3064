use Rattle.station_core.specs.Seen.{known_of}
use Rattle.station_core.proofs.Agreeing.{agree_at_first, agree_in_the_end}
use Rattle.station_core.proofs.laws.desk_of_messages.Goals as goal

pub returns : goal.returns
returns c start calls =
    agree_in_the_end (record { message = c.left_is_enough.ensures.message; unfinished = c.left_is_enough.ensures.unfinished; once = c.left_is_enough.ensures.once })
    start (known_of start) calls (agree_at_first start)
