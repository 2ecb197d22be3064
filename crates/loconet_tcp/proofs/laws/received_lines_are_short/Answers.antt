use Rattle.loconet_tcp.proofs.Whole.{received-short}
use Rattle.loconet_tcp.proofs.laws.received_lines_are_short.Goals as goal

pub returns : goal.returns
returns c = received-short
