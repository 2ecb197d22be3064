use Rattle.std.proofs.Common.{ℕ, ◌<◌, ◌≤◌}
use Rattle.refresh_ring.specs.Places.{IsRefreshed}
use Rattle.refresh_ring.proofs.plain.PlainRing.first_of.Given as goal

-- none was passed over
abbrev pub invariant-loop-place : goal.invariant-loop-place
invariant-loop-place l = (q : ℕ) → l.first ≤ q → q < l.place → ¬ IsRefreshed l.self.slots q
