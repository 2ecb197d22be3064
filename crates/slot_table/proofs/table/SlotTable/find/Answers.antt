use Rattle.std.proofs.Common.{ap, ◌∙◌, subst, ℕ}
use Rattle.std.specs.FinMap.{FinMap}
use Rattle.std.specs.Ordering.{nat_cmp}
use Rattle.slot_table.specs.Desk.{Desk, IsDesk}
use Rattle.slot_table.specs.Reading.{slot_of}
use Rattle.slot_table.specs.Index.{slot_with}
use Rattle.slot_table.proofs.Tables.{desk_of-IsDesk}
use Rattle.slot_table.proofs.Desks.{found_slot, placed_slot, no_slot}
use Rattle.slot_table.proofs.table.SlotTable.find.Goals as goal

pub returns-clause-found : goal.returns-clause-found
returns-clause-found c = c.slot_of.ensures ∙ ap (λ (m : FinMap nat_cmp ℕ). slot_with m c.args.address) c.self.invariant.indexed ∙ ap (λ (d : Desk). slot_of d c.args.address) c.self.view_is

pub returns-clause-desk : goal.returns-clause-desk
returns-clause-desk c = subst IsDesk c.self.view_is (desk_of-IsDesk c.self.inside.rows c.self.inside.mark c.self.invariant.table)

pub returns-clause-slot : goal.returns-clause-slot
returns-clause-slot c = found_slot c.args.self.now c.args.address c.slot_of.result (returns-clause-found c)

pub returns-clause-place : goal.returns-clause-place
returns-clause-place c = placed_slot c.args.self.now c.args.address c.slot_of.result (returns-clause-found c)

pub returns-clause-nowhere : goal.returns-clause-nowhere
returns-clause-nowhere c = no_slot c.args.self.now c.args.address c.slot_of.result (returns-clause-desk c) (returns-clause-found c)
