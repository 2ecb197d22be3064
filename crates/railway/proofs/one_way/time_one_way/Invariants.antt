use Rattle.std.proofs.Common.{◌≡◌, ◌<◌, ◌≤◌, ℕ, drop}
use Rattle.std.specs.List.{list_all}
use Rattle.railway.specs.Laws.{is_one_way}
use Rattle.railway.proofs.one_way.time_one_way.Given as goal

-- each train before goes one way, and the others have to
abbrev pub invariant-loop-train : goal.invariant-loop-train
invariant-loop-train l = record {
  goes : 0 < l.left;
  part : l.left ≤ l.micros;
  one_way : (k : ℕ) → k ≤ l.left → list_all (is_one_way l.world.nodes k) (drop l.train-index l.trains) ≡ list_all (is_one_way l.world.nodes k) l.trains;
}
