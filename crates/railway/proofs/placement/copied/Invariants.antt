use Rattle.std.proofs.Common.{◌≡◌, ◌≤◌, length, take}
use Rattle.railway.proofs.placement.copied.Given as goal

abbrev pub invariant-loop-train : goal.invariant-loop-train
invariant-loop-train l = record {
  copied : l.copy.items ≡ take l.train-index l.trains;
  few : length l.copy.items ≤ l.train-index;
}
