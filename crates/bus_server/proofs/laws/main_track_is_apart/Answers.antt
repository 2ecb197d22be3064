use Rattle.bus_server.proofs.Apart.{is_apart}
use Rattle.bus_server.proofs.laws.main_track_is_apart.Goals as goal

pub returns : goal.returns
returns c = is_apart
