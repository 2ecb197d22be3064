use Rattle.std.proofs.Common.{◌≡◌, ◌+◌, ◌-◌, ℕ, Option, Some, ap, ◌∙◌, subst, sym, arith, slice_set}
use Rattle.std.specs.Ordering.{nat_cmp}
use Rattle.std.specs.FinMap.{FinMap, get}
use Rattle.slot_table.specs.Desk.{Desk}
use Rattle.slot_table.specs.Index.{with_address}
use Rattle.slot_table.specs.Rows.{written, desk_of, place_of, IsTable}
use Rattle.slot_table.proofs.Finds.{get-place_of}
use Rattle.slot_table.proofs.Tables.{desk_of-IsDesk, set-IsTable, set-written, written-place}
use Rattle.slot_table.proofs.table.SlotTable.put.Goals as goal

pub change-requires-clause-had : goal.change-requires-clause-had
change-requires-clause-had c =
    ap (λ (m : FinMap nat_cmp ℕ). get m c.args.n) c.self.invariant.indexed
    ∙ get-place_of c.self.inside.rows c.args.n (c.args.n - 1) (omega (arith, c.requires.slot))
    ∙ sym c.address_in.ensures

kept : (c : goal.After-way_told-1) → IsTable (slice_set c.self.inside.rows (c.args.n - 1) c.args.row) c.self.inside.mark
kept c =
    let at : c.args.n - 1 + 1 ≡ c.args.n = omega (arith, c.requires.slot) in
    set-IsTable c.self.inside.rows c.self.inside.mark c.self.invariant.table (c.args.n - 1) c.args.row (omega (arith, c.requires.slot)) c.requires.row
    (λ m held h. c.requires.one_place m held (subst (λ (d : Desk). get d.place m ≡ Some c.args.row.address) c.self.view_is h) ∙ sym at)
    (λ free e. c.requires.marked free (sym (ap (λ (d : Desk). d.mark) c.self.view_is) ∙ e ∙ ap Some at))

after : (c : goal.After-way_told-1) → desk_of (slice_set c.self.inside.rows (c.args.n - 1) c.args.row) c.self.inside.mark ≡ written (desk_of c.self.inside.rows c.self.inside.mark) c.args.n c.args.row
after c =
    let at : c.args.n - 1 + 1 ≡ c.args.n = omega (arith, c.requires.slot) in
    set-written c.self.inside.rows c.self.inside.mark c.self.invariant.table (c.args.n - 1) c.args.row (omega (arith, c.requires.slot)) (kept c)
    ∙ ap (λ (m : ℕ). written (desk_of c.self.inside.rows c.self.inside.mark) m c.args.row) at

pub invariant_of-self : goal.invariant_of-self
invariant_of-self c = record {
  table = kept c;
  indexed =
      c.change.ensures
      ∙ ap (λ (m : FinMap nat_cmp ℕ). with_address m c.args.n c.address_in-2.result) c.self.invariant.indexed
      ∙ ap (λ (o : Option ℕ). with_address (place_of c.self.inside.rows) c.args.n o) c.address_in-2.ensures
      ∙ written-place (desk_of c.self.inside.rows c.self.inside.mark) c.args.n c.args.row
      ∙ sym (ap (λ (d : Desk). d.place) (after c));
}

pub returns-clause-after : goal.returns-clause-after
returns-clause-after c = after c ∙ ap (λ (d : Desk). written d c.args.n c.args.row) c.self.view_is

pub returns-clause-desk : goal.returns-clause-desk
returns-clause-desk c = desk_of-IsDesk (slice_set c.self.inside.rows (c.args.n - 1) c.args.row) c.self.inside.mark (kept c)
