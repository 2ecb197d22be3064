use Rattle.std.proofs.Common.{◌≡◌, map}
use Rattle.layout_core.specs.DecoderStates.{decoder_state_of}
use Rattle.bus_log.specs.LogQueues.{after_lines}
use Rattle.bus_log.specs.Lines.{changed_lines}
use Rattle.bus_log.proofs.Changed.{rest}
use Rattle.bus_log.proofs.printer.print_changed.Given as goal

-- the rest completes the whole
abbrev pub invariant-loop-i : goal.invariant-loop-i
invariant-loop-i l = rest l.log l.roster l.before (map decoder_state_of l.world.nodes) l.i ≡ after_lines l.fn.log (changed_lines l.roster l.before (map decoder_state_of l.world.nodes))
