use Rattle.std.proofs.Common.{◌≡◌, drop}
use Rattle.railway_plan.specs.Format.{index_from}
use Rattle.railway_plan.specs.Entries.{names_of}
use Rattle.railway_plan.proofs.names.block_index.Given as goal

abbrev pub invariant-loop-i : goal.invariant-loop-i
invariant-loop-i l = index_from l.i (names_of (drop l.i l.blocks)) l.name ≡ index_from 0 (names_of l.blocks) l.name
