use Rattle.std.proofs.Common.{[], refl, arith}
use Rattle.loconet_tcp.proofs.Lines.{along}
use Rattle.loconet_tcp.proofs.laws.any_cut.Goals as goal

pub returns : goal.returns
returns c text = along text [] refl (omega arith)
