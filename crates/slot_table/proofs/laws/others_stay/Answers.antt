use Rattle.slot_table.proofs.Stays.{others_stay}
use Rattle.slot_table.proofs.laws.others_stay.Goals as goal

pub returns : goal.returns
returns c = others_stay
