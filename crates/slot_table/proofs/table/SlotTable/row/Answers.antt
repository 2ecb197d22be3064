use Rattle.std.proofs.Common.{ap, ◌∙◌, subst}
use Rattle.slot_table.specs.Desk.{Desk, IsDesk}
use Rattle.slot_table.specs.Reading.{row_of}
use Rattle.slot_table.proofs.Tables.{row_of-desk_of, desk_of-IsDesk}
use Rattle.slot_table.proofs.table.SlotTable.row.Goals as goal

pub returns-clause-row : goal.returns-clause-row
returns-clause-row c = row_of-desk_of c.self.inside.rows c.self.inside.mark c.self.invariant.table c.args.n c.requires ∙ ap (λ (d : Desk). row_of d c.args.n) c.self.view_is

pub returns-clause-desk : goal.returns-clause-desk
returns-clause-desk c = subst IsDesk c.self.view_is (desk_of-IsDesk c.self.inside.rows c.self.inside.mark c.self.invariant.table)
