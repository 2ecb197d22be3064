use Rattle.std.proofs.Common.{ap, ◌∙◌}
use Rattle.slot_table.specs.Index.{first_free}
use Rattle.slot_table.proofs.Indexed.{least-first_free}
use Rattle.slot_table.proofs.index.Index.least_free.Goals as goal

pub returns : goal.returns
returns c = least-first_free c.self.inside.pairs.items c.self.inside.free c.self.invariant c.least_bit.result c.least_bit.ensures ∙ ap first_free c.self.view_is
