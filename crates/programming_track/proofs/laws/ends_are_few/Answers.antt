use Rattle.programming_track.proofs.Few.{ends_are_few}
use Rattle.programming_track.proofs.laws.ends_are_few.Goals as goal

pub returns : goal.returns
returns c = ends_are_few c.durations_are_bounded.ensures.shortest_unchecked
