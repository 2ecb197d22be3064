use Rattle.slot_table.proofs.Own.{own_slots}
use Rattle.slot_table.proofs.laws.own_slots.Goals as goal

pub returns : goal.returns
returns c = own_slots
