use Rattle.bus.proofs.Cut.{cut}
use Rattle.bus.proofs.laws.however_cut.Goals as goal

pub returns : goal.returns
returns c bus these those kept legal also time time_too same =
    cut bus these those time time_too (c.turns_of_the_time.ensures bus these kept legal) (c.turns_of_the_time.ensures bus those kept also) same
