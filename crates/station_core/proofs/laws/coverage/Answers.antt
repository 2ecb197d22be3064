use Rattle.station_core.proofs.Rounds.{coverage_from}
use Rattle.station_core.proofs.laws.coverage.Goals as goal

pub returns : goal.returns
returns c =
    coverage_from (record { message = c.left_is_enough.ensures.message; unfinished = c.left_is_enough.ensures.unfinished; once = c.left_is_enough.ensures.once })
    c.four_turns.ensures.falls c.four_turns.ensures.least c.four_turns.ensures.most
