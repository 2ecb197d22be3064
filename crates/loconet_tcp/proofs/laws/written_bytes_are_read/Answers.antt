use Rattle.loconet_tcp.proofs.ReadBack.{alone-back, before-back}
use Rattle.loconet_tcp.proofs.laws.written_bytes_are_read.Goals as goal

pub returns : goal.returns
returns c = record { alone = alone-back; before = before-back }
