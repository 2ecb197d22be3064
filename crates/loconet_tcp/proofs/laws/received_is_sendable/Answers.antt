use Rattle.loconet_tcp.proofs.ReadBack.{request-back}
use Rattle.loconet_tcp.proofs.laws.received_is_sendable.Goals as goal

pub returns : goal.returns
returns c = request-back
