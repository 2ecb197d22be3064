use Rattle.std.proofs.Common.{◌≡◌, map, take}
use Rattle.railway.specs.Turnouts.{moved_on}
use Rattle.railway.proofs.track.Track.advanced.Given as goal

abbrev pub invariant-loop-turnout : goal.invariant-loop-turnout
invariant-loop-turnout l = l.turnouts.items ≡ map (moved_on l.micros) (take l.turnout-index l.turnout-items)
