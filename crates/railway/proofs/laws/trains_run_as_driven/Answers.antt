use Rattle.railway.proofs.Driven.{runs-as-driven}
use Rattle.railway.proofs.laws.trains_run_as_driven.Goals as goal

pub returns : goal.returns
returns c = runs-as-driven c.railways_are_kept.ensures.kept c.ways_are_speed_times_time.ensures.way c.ways_are_speed_times_time.ensures.direction c.ramps_end.ensures
