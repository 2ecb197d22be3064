use Rattle.bus_server.proofs.Accounts.{front_rounds}
use Rattle.bus_server.proofs.laws.fronts_are_written.Goals as goal

pub returns : goal.returns
returns c = front_rounds
