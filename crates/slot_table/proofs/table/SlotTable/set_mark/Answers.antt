use Rattle.std.proofs.Common.{IsSome, subst, sym}
use Rattle.std.specs.FinMap.{get}
use Rattle.slot_table.specs.Desk.{Desk}
use Rattle.slot_table.proofs.Tables.{desk_of-IsDesk, mark-IsTable}
use Rattle.slot_table.proofs.table.SlotTable.set_mark.Goals as goal

pub invariant_of-self : goal.invariant_of-self
invariant_of-self c = record {
  table = mark-IsTable c.self.inside.rows c.self.inside.mark c.args.mark c.self.invariant.table
      (λ n e. subst (λ (d : Desk). IsSome (get d.place n)) (sym c.self.view_is) (c.requires n e));
  indexed = c.self.invariant.indexed;
}

pub returns-clause-desk : goal.returns-clause-desk
returns-clause-desk c = desk_of-IsDesk c.self.inside.rows c.args.mark (invariant_of-self c).table
