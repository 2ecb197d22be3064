use Rattle.std.proofs.Common.{◌≡◌, ◌-◌, length}
use Rattle.bus_log.specs.LogQueues.{after_lines}
use Rattle.bus_log.specs.RailwayLines.{lines_of_each}
use Rattle.bus_log.specs.ChangeLines.{conflicts_in}
use Rattle.bus_log.proofs.railway_lines.print_conflicts.Given as goal

-- the rest completes the whole
abbrev pub invariant-loop-block : goal.invariant-loop-block
invariant-loop-block l =
    after_lines l.log (lines_of_each l.block (length l.change.blocks.now - l.block) (conflicts_in l.change)) ≡ after_lines l.fn.log (lines_of_each 0 (length l.change.blocks.now) (conflicts_in l.change))
