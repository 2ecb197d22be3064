use Rattle.std.proofs.Common.{◌≡◌, ◌<◌, ◌≤◌, take, true}
use Rattle.std.specs.List.{list_all}
use Rattle.railway.specs.Turnouts.{is_calm_for}
use Rattle.railway.proofs.track.Track.calm_time.Given as goal

abbrev pub invariant-loop-i : goal.invariant-loop-i
invariant-loop-i l = record {
  goes : 0 < l.calm;
  part : l.calm ≤ l.micros;
  calm : list_all (is_calm_for l.calm) (take l.i l.turnouts) ≡ true;
}
