use Rattle.std.proofs.Common.{◌≡◌, ◌-◌, None, subst, sym}
use Rattle.std.specs.FinMap.{get}
use Rattle.slot_table.specs.Desk.{Desk, IsDesk}
use Rattle.slot_table.specs.Rows.{IsAt, row_in}
use Rattle.slot_table.proofs.Tables.{desk_of-IsDesk, row-IsAt, row-none}
use Rattle.slot_table.proofs.Desks.{outside-none, not_slot, slot_is}
use Rattle.slot_table.proofs.table.SlotTable.held.Goals as goal

pub returns-then-not-is_slot-clause-desk : goal.returns-then-not-is_slot-clause-desk
returns-then-not-is_slot-clause-desk c = subst IsDesk c.self.view_is (desk_of-IsDesk c.self.inside.rows c.self.inside.mark c.self.invariant.table)

pub returns-then-not-is_slot-clause-free : goal.returns-then-not-is_slot-clause-free
returns-then-not-is_slot-clause-free c = outside-none c.args.self.now (returns-then-not-is_slot-clause-desk c) c.args.n (not_slot c.args.n (sym c.if-not-is_slot.ensures))

pub returns-then-is_held-clause-held : goal.returns-then-is_held-clause-held
returns-then-is_held-clause-held c = subst (λ (d : Desk). IsAt d c.args.n (row_in c.self.inside.rows (c.args.n - 1))) c.self.view_is
    (row-IsAt c.self.inside.rows c.self.inside.mark c.self.invariant.table c.args.n (slot_is c.args.n (sym c.if-not-is_slot.ensures)) (sym c.if-is_held.ensures))

pub returns-then-is_held-clause-desk : goal.returns-then-is_held-clause-desk
returns-then-is_held-clause-desk c = subst IsDesk c.self.view_is (desk_of-IsDesk c.self.inside.rows c.self.inside.mark c.self.invariant.table)

pub returns-else-is_held-clause-free : goal.returns-else-is_held-clause-free
returns-else-is_held-clause-free c = subst (λ (d : Desk). get d.place c.args.n ≡ None) c.self.view_is
    (row-none c.self.inside.rows c.self.inside.mark c.args.n (slot_is c.args.n (sym c.if-not-is_slot.ensures)) (sym c.if-is_held.ensures))

pub returns-else-is_held-clause-desk : goal.returns-else-is_held-clause-desk
returns-else-is_held-clause-desk c = subst IsDesk c.self.view_is (desk_of-IsDesk c.self.inside.rows c.self.inside.mark c.self.invariant.table)
