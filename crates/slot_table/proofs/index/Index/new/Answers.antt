use Rattle.slot_table.proofs.Indexed.{empty-index, empty-addresses}
use Rattle.slot_table.proofs.index.Index.new.Goals as goal

pub invariant_of-result : goal.invariant_of-result
invariant_of-result c = empty-index c.new.result.items c.new.ensures

pub returns : goal.returns
returns c = empty-addresses c.new.result.items c.new.ensures
