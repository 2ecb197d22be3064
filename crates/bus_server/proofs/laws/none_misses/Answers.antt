use Rattle.std.proofs.Common.{length}
use Rattle.bus_server.proofs.Missing.{all_heard}
use Rattle.bus_server.proofs.laws.none_misses.Goals as goal

pub returns : goal.returns
returns c events old new run lose = all_heard events old.bus (length old.nodes) old.losses new.losses run.losses lose
