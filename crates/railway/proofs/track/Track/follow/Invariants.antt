use Rattle.std.proofs.Common.{◌≡◌, true}
use Rattle.std.specs.Prelude.{IsTrue, slice_set}
use Rattle.railway.specs.Blocks.{no_blocks}
use Rattle.railway.specs.Network.{covered, last_on, way_on}
use Rattle.railway.specs.Places.{is_on_track}
use Rattle.railway.proofs.track.Track.follow.Given as goal

-- what is left of the way leads to where all of it leads, and marks what all of it marks
abbrev pub invariant-loop-left : goal.invariant-loop-left
invariant-loop-left l = record {
  leads : way_on l.self l.place l.left ≡ way_on l.self l.fn.place l.way;
  last : last_on l.self l.place l.left ≡ last_on l.self l.fn.place l.way;
  covers : covered l.self l.place l.left l.blocks ≡ covered l.self l.fn.place l.way no_blocks;
  set : slice_set l.blocks l.place.block true ≡ l.blocks;
  on_track : IsTrue (is_on_track l.self.blocks l.place);
}

abbrev pub decreases-loop-left : goal.decreases-loop-left
decreases-loop-left l = l.left
