use Rattle.show_text.proofs.ReadBack.{script-back}
use Rattle.show_text.proofs.laws.written_is_read.Goals as goal

pub returns : goal.returns
returns c = record { script = script-back }
