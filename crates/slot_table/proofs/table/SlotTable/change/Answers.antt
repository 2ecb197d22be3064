use Rattle.std.proofs.Common.{◌≡◌, ◌+◌, ◌-◌, ℕ, Some, ap, ◌∙◌, subst, sym, arith, slice_set}
use Rattle.std.proofs.lemmas.Bool.{both_ways}
use Rattle.std.specs.FinMap.{get, insert}
use Rattle.ln_ops.specs.Slot.{is_held}
use Rattle.slot_table.specs.Entry.{entry_of}
use Rattle.slot_table.specs.Desk.{Desk}
use Rattle.slot_table.specs.Rows.{written, desk_of, IsTable}
use Rattle.slot_table.proofs.Legal.{legal_row}
use Rattle.slot_table.proofs.Tables.{desk_of-IsDesk, set-IsTable, set-written}
use Rattle.slot_table.proofs.Desks.{written-same}
use Rattle.slot_table.proofs.table.SlotTable.change.Goals as goal

placed : (c : goal.After-way_told-1) → get (desk_of c.self.inside.rows c.self.inside.mark).place c.args.n ≡ Some c.args.row.address
placed c = subst (λ (d : Desk). get d.place c.args.n ≡ Some c.args.row.address) (sym c.self.view_is) c.requires.place

kept : (c : goal.After-way_told-1) → IsTable (slice_set c.self.inside.rows (c.args.n - 1) c.args.row) c.self.inside.mark
kept c =
    let at : c.args.n - 1 + 1 ≡ c.args.n = omega (arith, c.requires.slot) in
    set-IsTable c.self.inside.rows c.self.inside.mark c.self.invariant.table (c.args.n - 1) c.args.row (omega (arith, c.requires.slot))
    (legal_row c.args.row c.requires.entry.held c.requires.address c.requires.entry)
    (λ m held h. c.requires.desk.one_place m c.args.n c.args.row.address (subst (λ (d : Desk). get d.place m ≡ Some c.args.row.address) c.self.view_is h) c.requires.place ∙ sym at)
    (λ free e. both_ways (is_held c.args.row.state) free c.requires.entry.held)

after : (c : goal.After-way_told-1)
    → desk_of (slice_set c.self.inside.rows (c.args.n - 1) c.args.row) c.self.inside.mark ≡ record (desk_of c.self.inside.rows c.self.inside.mark) { asked = insert (desk_of c.self.inside.rows c.self.inside.mark).asked c.args.row.address (entry_of c.args.row) }
after c =
    let at : c.args.n - 1 + 1 ≡ c.args.n = omega (arith, c.requires.slot) in
    set-written c.self.inside.rows c.self.inside.mark c.self.invariant.table (c.args.n - 1) c.args.row (omega (arith, c.requires.slot)) (kept c)
    ∙ ap (λ (m : ℕ). written (desk_of c.self.inside.rows c.self.inside.mark) m c.args.row) at
    ∙ written-same (desk_of c.self.inside.rows c.self.inside.mark) c.args.n c.args.row (placed c) c.requires.entry.held

pub invariant_of-self : goal.invariant_of-self
invariant_of-self c = record { table = kept c; indexed = c.self.invariant.indexed ∙ sym (ap (λ (d : Desk). d.place) (after c)) }

pub returns-clause-after : goal.returns-clause-after
returns-clause-after c = after c ∙ ap (λ (d : Desk). record d { asked = insert d.asked c.args.row.address (entry_of c.args.row) }) c.self.view_is

pub returns-clause-desk : goal.returns-clause-desk
returns-clause-desk c = desk_of-IsDesk (slice_set c.self.inside.rows (c.args.n - 1) c.args.row) c.self.inside.mark (kept c)
