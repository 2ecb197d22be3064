use Rattle.station_core.proofs.Desks.{stays_a_desk}
use Rattle.station_core.proofs.laws.stays_a_desk.Goals as goal

pub returns : goal.returns
returns c = stays_a_desk c.leaves_desk.ensures
