use Rattle.std.proofs.Common.{◌≡◌, map, take}
use Rattle.railway.specs.Failures.{failing_by}
use Rattle.railway.proofs.track.Track.failing_by.Given as goal

abbrev pub invariant-loop-turnout : goal.invariant-loop-turnout
invariant-loop-turnout l = l.turnouts.items ≡ map (failing_by l.switch) (take l.turnout-index l.turnout-items)
