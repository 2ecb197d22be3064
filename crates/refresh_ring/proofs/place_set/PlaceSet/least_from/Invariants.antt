use Rattle.std.proofs.Common.{◌≡◌, ℕ, ◌≤◌, ◌<◌, ◌*◌, ◌+◌, ◌⊎◌}
use Rattle.refresh_ring.specs.Words.{bit_of}
use Rattle.refresh_ring.proofs.place_set.PlaceSet.least_from.Given as goal

abbrev pub invariant-loop-i : goal.invariant-loop-i
invariant-loop-i l = record {
  low : l.place ≤ 64 * l.i + l.from;
  small : l.from < 64;
  start : 64 * l.i + l.from ≤ l.place ⊎ (l.from ≡ 0);
  none : (q : ℕ) → l.place ≤ q → q < 64 * l.i + l.from → bit_of l.self q ≡ 0;
}
