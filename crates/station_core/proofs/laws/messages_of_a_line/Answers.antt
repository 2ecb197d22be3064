use Rattle.station_core.proofs.Agreeing.{messages_of_line}
use Rattle.station_core.proofs.laws.messages_of_a_line.Goals as goal

pub returns : goal.returns
returns c known calls line low left =
    messages_of_line (record { message = c.left_is_enough.ensures.message; unfinished = c.left_is_enough.ensures.unfinished; once = c.left_is_enough.ensures.once })
    line c.any_cut.ensures.behind known calls low left
