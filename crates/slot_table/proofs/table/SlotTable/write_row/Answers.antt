use Rattle.std.proofs.Common.{◌≡◌, ◌∙◌, ℕ, Option, Some, false, sym, subst, ap, ap₂}
use Rattle.std.specs.FinMap.{get}
use Rattle.ln_ops.specs.Slot.{is_held, is_slot, is_stat, state_of, address_of, is_address}
use Rattle.ln_ops.specs.Fields.{SlotBytes}
use Rattle.ln_ops.specs.declared.row.Row.{Row}
use Rattle.slot_table.specs.Entry.{row_with}
use Rattle.slot_table.specs.Desk.{Desk}
use Rattle.slot_table.specs.Reading.{slot_of}
use Rattle.slot_table.specs.Changes.{cleared}
use Rattle.slot_table.specs.Writes.{is_elsewhere, kept_more, entry_from, written_entry}
use Rattle.slot_table.specs.Rows.{written}
use Rattle.slot_table.proofs.Desks.{written_alone, written_done}
use Rattle.slot_table.proofs.table.SlotTable.write_row.Goals as goal

pub put-requires-clause-one_place : goal.put-requires-clause-one_place
put-requires-clause-one_place c = λ m held h.
    written_alone c.args.self.now c.fields.inside.slot (address_of c.args.fields.now) c.find-found.result c.find-found.ensures.desk
    (c.find-found.ensures.found ∙ ap (slot_of c.args.self.now) c.address_of-address.ensures) (sym c.if-is_elsewhere.ensures) m
    (subst (λ (d : Desk). get d.place m ≡ Some (address_of c.args.fields.now)) c.clear-2.ensures.after
    (h ∙ ap (λ (r : Row). Some r.address) c.row_from.ensures))

pub returns-clause-after : goal.returns-clause-after
returns-clause-after c =
    let slot : c.fields.inside.slot ≡ c.args.fields.now.slot = ap (λ (f : SlotBytes). f.slot) c.fields.view_is in
    let stat : c.fields.inside.stat ≡ c.args.fields.now.stat = ap (λ (f : SlotBytes). f.stat) c.fields.view_is in
    let address = c.address_of-address.ensures in
    let more = c.kept_more-more.ensures.more ∙ ap₂ (kept_more c.args.self.now) slot address in
    let row = c.row_from.ensures ∙ ap (λ (k : ℕ). row_with (address_of c.args.fields.now) (entry_from c.args.fields.now k)) more in
    let alone : is_elsewhere (slot_of c.args.self.now (address_of c.args.fields.now)) c.args.fields.now.slot ≡ false =
    ap (is_elsewhere (slot_of c.args.self.now (address_of c.args.fields.now))) (sym slot)
    ∙ ap (λ (o : Option ℕ). is_elsewhere o c.fields.inside.slot) (sym (c.find-found.ensures.found ∙ ap (slot_of c.args.self.now) address)) ∙ sym c.if-is_elsewhere.ensures in
    c.put.ensures.after
    ∙ ap₂ (λ (d : Desk) (r : Row). written d c.fields.inside.slot r) c.clear-2.ensures.after row
    ∙ ap (λ (n : ℕ). written (cleared c.args.self.now n) n (row_with (address_of c.args.fields.now) (written_entry c.args.self.now c.args.fields.now))) slot
    ∙ written_done c.args.self.now c.args.fields.now
    (ap is_slot (sym slot) ∙ sym c.if-not-is_slot.ensures)
    (ap is_stat (sym stat) ∙ sym c.if-not-is_stat.ensures.stat)
    (ap (λ (n : ℕ). is_held (state_of n)) (sym stat) ∙ ap is_held (sym c.state_of-state.ensures) ∙ sym c.if-not-is_held.ensures)
    (ap is_address (sym address) ∙ sym c.if-not-is_address.ensures)
    alone
