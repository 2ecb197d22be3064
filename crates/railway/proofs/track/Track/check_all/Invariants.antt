use Rattle.std.proofs.Common.{◌≡◌, ◌≤◌, length, map, take}
use Rattle.railway.specs.Turnouts.{checked}
use Rattle.railway.proofs.track.Track.check_all.Given as goal

abbrev pub invariant-loop-train : goal.invariant-loop-train
invariant-loop-train l = record {
  checked : l.after.items ≡ map (checked l.world.nodes l.self) (take l.train-index l.trains);
  few : length l.after.items ≤ l.train-index;
}
