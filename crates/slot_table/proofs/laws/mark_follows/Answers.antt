use Rattle.slot_table.proofs.Marks.{mark_follows}
use Rattle.slot_table.proofs.laws.mark_follows.Goals as goal

pub returns : goal.returns
returns c = mark_follows
