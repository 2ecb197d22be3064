use Rattle.std.proofs.Common.{◌≡◌, drop}
use Rattle.railway.specs.Network.{joints_of, partner}
use Rattle.railway.proofs.track.over_turnouts.Given as goal

-- the turnouts so far do not lead on from the end
abbrev pub invariant-loop-turnout : goal.invariant-loop-turnout
invariant-loop-turnout l = partner (joints_of (drop l.turnout-index l.turnouts)) l.end ≡ partner (joints_of l.turnouts) l.end
