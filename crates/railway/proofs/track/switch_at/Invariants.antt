use Rattle.std.proofs.Common.{◌≡◌, drop}
use Rattle.railway.specs.Network.{switch_at}
use Rattle.railway.proofs.track.switch_at.Given as goal

-- the end belongs to none of the turnouts so far
abbrev pub invariant-loop-turnout : goal.invariant-loop-turnout
invariant-loop-turnout l = switch_at (drop l.turnout-index l.turnouts) l.end ≡ switch_at l.turnouts l.end
