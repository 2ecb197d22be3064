use Rattle.std.proofs.Common.{◌≡◌, drop}
use Rattle.railway_plan.specs.Format.{end_from}
use Rattle.railway_plan.specs.Entries.{names_of}
use Rattle.railway_plan.proofs.names.block_end.Given as goal

abbrev pub invariant-loop-i : goal.invariant-loop-i
invariant-loop-i l = end_from l.i (names_of (drop l.i l.blocks)) l.text ≡ end_from 0 (names_of l.blocks) l.text
