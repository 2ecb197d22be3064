use Rattle.std.proofs.Common.{◌≡◌}
use Rattle.std.specs.Prelude.{IsTrue}
use Rattle.railway.specs.Network.{run_on}
use Rattle.railway.specs.Running.{is_within}
use Rattle.railway.proofs.track.Track.run_on.Given as goal

-- what is left of the way leads to where all of it leads
abbrev pub invariant-loop-left : goal.invariant-loop-left
invariant-loop-left l = record {
  leads : run_on l.self l.train l.left ≡ run_on l.self l.fn.train l.fn.way;
  within : IsTrue (is_within l.self.blocks l.train);
}

abbrev pub decreases-loop-left : goal.decreases-loop-left
decreases-loop-left l = l.left
