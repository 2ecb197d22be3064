use Rattle.std.proofs.Common.{◌≡◌}
use Rattle.std.specs.Prelude.{IsTrue}
use Rattle.railway.specs.Network.{first_at}
use Rattle.railway.specs.Places.{is_on_track}
use Rattle.railway.specs.Turnouts.{is_moved_end}
use Rattle.railway.proofs.track.Track.moved_at_first.Given as goal

-- what is left of the way leads to what all of it leads to
abbrev pub invariant-loop-left : goal.invariant-loop-left
invariant-loop-left l = record {
  leads : first_at (is_moved_end l.world.nodes l.self.turnouts) l.self l.place l.left ≡ first_at (is_moved_end l.world.nodes l.self.turnouts) l.self l.fn.place l.fn.way;
  on_track : IsTrue (is_on_track l.self.blocks l.place);
}

abbrev pub decreases-loop-left : goal.decreases-loop-left
decreases-loop-left l = l.left
