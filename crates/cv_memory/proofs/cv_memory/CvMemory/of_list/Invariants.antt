use Rattle.std.proofs.Common.{◌≡◌, ℕ, ◌<◌, get_or, length}
use Rattle.cv_memory.specs.Filed.{filed_value}
use Rattle.cv_memory.proofs.cv_memory.CvMemory.of_list.Given as goal

-- the variables before this one have their values
abbrev pub invariant-loop-address : goal.invariant-loop-address
invariant-loop-address l = record {
  length : length l.values ≡ 1024;
  filled : (k : ℕ) → k < l.address → get_or l.values k 0 ≡ filed_value l.pairs k;
}
