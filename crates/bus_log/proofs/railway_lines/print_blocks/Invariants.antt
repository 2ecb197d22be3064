use Rattle.std.proofs.Common.{◌≡◌, ◌-◌, length}
use Rattle.bus_log.specs.LogQueues.{after_lines}
use Rattle.bus_log.specs.RailwayLines.{lines_of_each}
use Rattle.bus_log.specs.ChangeLines.{block_changes}
use Rattle.bus_log.proofs.railway_lines.print_blocks.Given as goal

-- the rest completes the whole
abbrev pub invariant-loop-i : goal.invariant-loop-i
invariant-loop-i l =
    after_lines l.log (lines_of_each l.i (length l.change.blocks.now - l.i) (block_changes l.change)) ≡ after_lines l.fn.log (lines_of_each 0 (length l.change.blocks.now) (block_changes l.change))
