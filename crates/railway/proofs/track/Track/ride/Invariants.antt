use Rattle.std.proofs.Common.{◌≡◌}
use Rattle.std.specs.Prelude.{IsTrue}
use Rattle.railway.specs.Running.{can_run, ridden}
use Rattle.railway.proofs.track.Track.ride.Given as goal

-- what is left of the time leads to where all of it leads
abbrev pub invariant-loop-left : goal.invariant-loop-left
invariant-loop-left l = record {
  leads : ridden l.self l.drive l.left l.train ≡ ridden l.self l.drive l.fn.micros l.fn.train;
  run : IsTrue (can_run l.self.blocks l.train);
}

abbrev pub decreases-loop-left : goal.decreases-loop-left
decreases-loop-left l = l.left
