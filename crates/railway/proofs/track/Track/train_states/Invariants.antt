use Rattle.std.proofs.Common.{◌≡◌, ◌≤◌, length, map, take}
use Rattle.railway.specs.Placement.{state_of_train}
use Rattle.railway.proofs.track.Track.train_states.Given as goal

abbrev pub invariant-loop-train : goal.invariant-loop-train
invariant-loop-train l = record {
  made : l.states.items ≡ map (state_of_train l.self) (take l.train-index l.trains);
  few : length l.states.items ≤ l.train-index;
}
