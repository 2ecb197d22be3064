use Rattle.std.proofs.Common.{◌≡◌, ℕ, ◌<◌, ◌||◌, drop, false}
use Rattle.std.specs.List.{slice_index_or}
use Rattle.railway.specs.Reports.{is_occupied}
use Rattle.railway.proofs.report.occupied.Given as goal

-- what was found, and what the other trains add
abbrev pub invariant-loop-train : goal.invariant-loop-train
invariant-loop-train l =
    (block : ℕ) → block < 64 → (slice_index_or l.blocks block false || is_occupied (drop l.train-index l.trains) block) ≡ is_occupied l.trains block
