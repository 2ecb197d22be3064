use Rattle.station_core.proofs.Sent.{packets_of_the_desk}
use Rattle.station_core.proofs.laws.packets_of_the_desk.Goals as goal

pub returns : goal.returns
returns c = packets_of_the_desk c.picks_are_due.ensures.is_due
