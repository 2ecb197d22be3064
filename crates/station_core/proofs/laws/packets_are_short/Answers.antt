use Rattle.station_core.proofs.Short.{few, right, some}
use Rattle.station_core.proofs.laws.packets_are_short.Goals as goal

pub returns : goal.returns
returns c = record { some = some; few = few; checked = right }
