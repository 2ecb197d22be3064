use Rattle.std.proofs.Common.{◌≡◌, drop}
use Rattle.railway.specs.Conflicts.{first_in}
use Rattle.bus_log.proofs.railway_lines.first_in.Given as goal

abbrev pub invariant-loop-i : goal.invariant-loop-i
invariant-loop-i l = first_in l.block l.i (drop l.i l.trains) ≡ first_in l.block 0 l.trains
