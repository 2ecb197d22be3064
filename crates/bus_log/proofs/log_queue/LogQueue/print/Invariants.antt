use Rattle.std.proofs.Common.{◌≡◌, drop}
use Rattle.bus_log.specs.LogQueues.{after_text}
use Rattle.bus_log.proofs.log_queue.LogQueue.print.Given as goal

-- the effect of the rest is that of the whole text on the start
abbrev pub invariant-loop-byte : goal.invariant-loop-byte
invariant-loop-byte l = after_text l.self (drop l.byte-index l.text) ≡ after_text l.fn.self l.text
