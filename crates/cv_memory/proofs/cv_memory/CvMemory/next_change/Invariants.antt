use Rattle.std.proofs.Common.{◌≡◌, ℕ, ◌≤◌, ◌<◌, false}
use Rattle.cv_memory.specs.Changes.{is_changed}
use Rattle.cv_memory.proofs.cv_memory.CvMemory.next_change.Given as goal

-- no variable before this one differs
abbrev pub invariant-loop-at : goal.invariant-loop-at
invariant-loop-at l = (other : ℕ) → l.address ≤ other → other < l.at → is_changed l.self other ≡ false
