use Rattle.dcc_packet.proofs.Spelling.{spelled_once}
use Rattle.dcc_packet.proofs.laws.one_spelling.Goals as goal

pub returns : goal.returns
returns c = spelled_once
