use Rattle.slot_table.proofs.Removing.{leaves_desk}
use Rattle.slot_table.proofs.laws.leaves_desk.Goals as goal

pub returns : goal.returns
returns c = leaves_desk
