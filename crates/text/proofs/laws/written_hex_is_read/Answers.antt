use Rattle.text.proofs.HexBack.{hex-back}
use Rattle.text.proofs.laws.written_hex_is_read.Goals as goal

pub returns : goal.returns
returns c = hex-back
