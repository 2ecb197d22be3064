use Rattle.std.proofs.Common.{ap, ◌∙◌}
use Rattle.slot_table.specs.Reading.{free_slot}
use Rattle.slot_table.specs.Index.{first_free}
use Rattle.slot_table.proofs.Desks.{found_free}
use Rattle.slot_table.proofs.table.SlotTable.free.Goals as goal

pub returns-clause-free : goal.returns-clause-free
returns-clause-free c = c.least_free.ensures ∙ ap first_free c.self.invariant.indexed ∙ ap free_slot c.self.view_is

pub returns-clause-slot : goal.returns-clause-slot
returns-clause-slot c = (found_free c.args.self.now c.least_free.result (returns-clause-free c)).0

pub returns-clause-none : goal.returns-clause-none
returns-clause-none c = (found_free c.args.self.now c.least_free.result (returns-clause-free c)).1
