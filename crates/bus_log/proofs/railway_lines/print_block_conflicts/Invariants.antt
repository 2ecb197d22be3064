use Rattle.std.proofs.Common.{◌≡◌, ◌-◌, length}
use Rattle.bus_log.specs.LogQueues.{after_lines}
use Rattle.bus_log.specs.RailwayLines.{lines_of_each}
use Rattle.bus_log.specs.ChangeLines.{meetings_in}
use Rattle.bus_log.proofs.railway_lines.print_block_conflicts.Given as goal

-- the rest completes the whole
abbrev pub invariant-loop-first : goal.invariant-loop-first
invariant-loop-first l =
    after_lines l.log (lines_of_each l.first (length l.change.after.now - l.first) (meetings_in l.change l.block)) ≡ after_lines l.fn.log (lines_of_each 0 (length l.change.after.now) (meetings_in l.change l.block))
