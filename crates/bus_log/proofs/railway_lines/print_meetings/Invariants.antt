use Rattle.std.proofs.Common.{◌≡◌, ◌-◌, length}
use Rattle.bus_log.specs.LogQueues.{after_lines}
use Rattle.bus_log.specs.RailwayLines.{lines_of_each}
use Rattle.bus_log.specs.ChangeLines.{meetings_in, pair_in}
use Rattle.bus_log.proofs.railway_lines.print_meetings.Given as goal

-- the rest completes the whole
abbrev pub invariant-loop-second : goal.invariant-loop-second
invariant-loop-second l =
    after_lines l.log (lines_of_each l.second (length l.change.after.now - l.second) (λ second. pair_in l.change (record { block = l.block; first = l.first; second = second })))
    ≡ after_lines l.fn.log (meetings_in l.change l.block l.first)
