use Rattle.bus_log.proofs.Staying.{StayBelow}
use Rattle.bus_log.proofs.railway_lines.all_stay.Given as goal

-- each of the first trains does
abbrev pub invariant-loop-i : goal.invariant-loop-i
invariant-loop-i l = StayBelow l.before l.after l.i
