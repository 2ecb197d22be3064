use Rattle.std.proofs.Common.{subst, ap}
use Rattle.slot_table.specs.Desk.{Desk, IsDesk}
use Rattle.slot_table.proofs.Desks.{marked_slot}
use Rattle.slot_table.proofs.Tables.{desk_of-IsDesk}
use Rattle.slot_table.proofs.table.SlotTable.mark.Goals as goal

pub returns-clause-desk : goal.returns-clause-desk
returns-clause-desk c = subst IsDesk c.self.view_is (desk_of-IsDesk c.self.inside.rows c.self.inside.mark c.self.invariant.table)

pub returns-clause-slot : goal.returns-clause-slot
returns-clause-slot c = (marked_slot c.args.self.now c.self.inside.mark (returns-clause-desk c) (ap (λ (d : Desk). d.mark) c.self.view_is)).0

pub returns-clause-placed : goal.returns-clause-placed
returns-clause-placed c = (marked_slot c.args.self.now c.self.inside.mark (returns-clause-desk c) (ap (λ (d : Desk). d.mark) c.self.view_is)).1
