use Rattle.loconet_tcp.proofs.Whole.{request-whole}
use Rattle.loconet_tcp.proofs.laws.requested_message_is_whole.Goals as goal

pub returns : goal.returns
returns c = request-whole
