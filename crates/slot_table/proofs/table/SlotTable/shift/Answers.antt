use Rattle.std.proofs.Common.{◌≡◌, ◌∙◌, ℕ, Some, IsSome, sym, subst, ap, arith}
use Rattle.std.specs.FinMap.{get}
use Rattle.slot_table.specs.Desk.{Desk}
use Rattle.slot_table.specs.Rows.{written}
use Rattle.slot_table.proofs.Desks.{from_err, moved_alone, written-placed, shifted-marked, shifted-unmarked}
use Rattle.slot_table.proofs.table.SlotTable.shift.Goals as goal

pub put-requires-clause-one_place : goal.put-requires-clause-one_place
put-requires-clause-one_place c = λ m held h.
    moved_alone c.args.self.now c.args.src c.args.dest c.in_ok-row.row c.held.ensures.desk c.in_ok-row.ensures.held m
    (subst (λ (d : Desk). get d.place m ≡ Some c.in_ok-row.row.address) c.clear.ensures.after h)

-- the slot that the row went to is not free
pub set_mark-requires : goal.set_mark-requires
set_mark-requires c = λ n e.
    let at : c.args.dest ≡ n = grind arith in
    subst (λ (n : ℕ). IsSome (get c.put.new.self.place n)) at
    (subst (λ (d : Desk). IsSome (get d.place c.args.dest)) (sym c.put.ensures.after)
    (written-placed c.clear.new.self c.args.dest c.in_ok-row.row c.in_ok-row.ensures.held.legal.held))

pub returns-then-marked-clause-after : goal.returns-then-marked-clause-after
returns-then-marked-clause-after c =
    c.set_mark.ensures.after
    ∙ shifted-marked c.args.self.now c.args.src c.args.dest c.in_ok-row.row c.held.ensures.desk c.in_ok-row.ensures.held
    (sym c.if-not-may_move.ensures) (sym c.if-not-is_slot.ensures) (from_err c.held-else-not-is_slot.result (sym c.if-is_ok.ensures.value) c.held-else-not-is_slot.ensures.free)
    (sym c.if-marked.ensures) c.put.new.self (c.put.ensures.after ∙ ap (λ (d : Desk). written d c.args.dest c.in_ok-row.row) c.clear.ensures.after)

pub returns-else-marked-clause-after : goal.returns-else-marked-clause-after
returns-else-marked-clause-after c =
    c.put.ensures.after
    ∙ ap (λ (d : Desk). written d c.args.dest c.in_ok-row.row) c.clear.ensures.after
    ∙ shifted-unmarked c.args.self.now c.args.src c.args.dest c.in_ok-row.row c.held.ensures.desk c.in_ok-row.ensures.held
    (sym c.if-not-may_move.ensures) (sym c.if-not-is_slot.ensures) (from_err c.held-else-not-is_slot.result (sym c.if-is_ok.ensures.value) c.held-else-not-is_slot.ensures.free)
    (sym c.if-marked.ensures)
