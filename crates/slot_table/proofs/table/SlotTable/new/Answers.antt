use Rattle.std.proofs.Common.{None, ap, sym, ◌∙◌}
use Rattle.slot_table.specs.Desk.{Desk}
use Rattle.slot_table.proofs.Tables.{free_rows-IsTable, free_rows-first, desk_of-IsDesk}
use Rattle.slot_table.proofs.table.SlotTable.new.Goals as goal

pub invariant_of-result : goal.invariant_of-result
invariant_of-result c = record {
  table = free_rows-IsTable c.free_rows.result c.free_rows.ensures;
  indexed = c.new.ensures ∙ sym (ap (λ (d : Desk). d.place) (free_rows-first c.free_rows.result c.free_rows.ensures));
}

pub returns-clause-first : goal.returns-clause-first
returns-clause-first c = free_rows-first c.free_rows.result c.free_rows.ensures

pub returns-clause-desk : goal.returns-clause-desk
returns-clause-desk c = desk_of-IsDesk c.free_rows.result None (invariant_of-result c).table
