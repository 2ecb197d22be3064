use Rattle.std.proofs.Common.{ℕ, ◌<◌, ◌≤◌, ◌-◌, length}
use Rattle.slot_table.specs.Index.{pair_at}
use Rattle.slot_table.proofs.pairs.position.Given as goal

-- the address is neither below nor above the remaining pairs
abbrev pub invariant-loop-low : goal.invariant-loop-low
invariant-loop-low l = record {
  order : l.low ≤ l.high;
  end : l.high ≤ length l.pairs;
  below : (i : ℕ) → i < l.low → (pair_at l.pairs i).address < l.address;
  above : (i : ℕ) → l.high ≤ i → i < length l.pairs → l.address < (pair_at l.pairs i).address;
}

abbrev pub decreases-loop-low : goal.decreases-loop-low
decreases-loop-low l = l.high - l.low
