use Rattle.std.proofs.Common.{◌∙◌, sym, refl}
use Rattle.slot_table.proofs.Desks.{free_slot-at, slot_of-none, written-free, taken}
use Rattle.slot_table.proofs.table.SlotTable.take.Goals as goal

pub put-requires-clause-slot : goal.put-requires-clause-slot
put-requires-clause-slot c = (free_slot-at c.args.self.now c.in-Some-free.n (sym c.in-Some-free.ensures.free)).0

pub put-requires-clause-one_place : goal.put-requires-clause-one_place
put-requires-clause-one_place c = λ m held at. absurd (slot_of-none c.args.self.now c.args.address c.find-found.ensures.desk (sym c.in_default.ensures.found) m at)

pub returns-clause-after : goal.returns-clause-after
returns-clause-after c =
    c.put.ensures.after
    ∙ written-free c.args.self.now c.in-Some-free.n _ (free_slot-at c.args.self.now c.in-Some-free.n (sym c.in-Some-free.ensures.free)).1 refl
    ∙ sym (taken c.args.self.now c.args.address c.in-Some-free.n (sym c.in_default.ensures.found) (sym c.in-Some-free.ensures.free) (sym c.if-not-is_address.ensures))

pub returns-clause-slot : goal.returns-clause-slot
returns-clause-slot c = (free_slot-at c.args.self.now c.in-Some-free.n (sym c.in-Some-free.ensures.free)).0
