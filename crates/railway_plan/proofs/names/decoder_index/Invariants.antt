use Rattle.std.proofs.Common.{◌≡◌, drop, map}
use Rattle.roster.specs.Entry.{name_of}
use Rattle.railway_plan.specs.Format.{index_from}
use Rattle.railway_plan.proofs.names.decoder_index.Given as goal

abbrev pub invariant-loop-i : goal.invariant-loop-i
invariant-loop-i l = index_from l.i (map name_of (drop l.i l.roster)) l.name ≡ index_from 0 (map name_of l.roster) l.name
