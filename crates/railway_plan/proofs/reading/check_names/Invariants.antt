use Rattle.std.proofs.Common.{◌≡◌, ◌+◌, drop}
use Rattle.railway_plan.specs.Format.{named_apart}
use Rattle.railway_plan.specs.Entries.{names_of}
use Rattle.railway_plan.proofs.reading.check_names.Given as goal

abbrev pub invariant-loop-i : goal.invariant-loop-i
invariant-loop-i l = named_apart (l.i + 1) (names_of (drop l.i l.blocks)) ≡ named_apart 1 (names_of l.blocks)
