use Rattle.slot_table.proofs.Shown.{rows_are_legal}
use Rattle.slot_table.proofs.laws.rows_are_legal.Goals as goal

pub returns : goal.returns
returns c = rows_are_legal
