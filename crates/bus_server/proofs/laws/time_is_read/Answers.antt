use Rattle.bus_server.proofs.Times.{time_is_read}
use Rattle.bus_server.proofs.laws.time_is_read.Goals as goal

pub returns : goal.returns
returns c = time_is_read
