use Rattle.std.proofs.Common.{◌∙◌, ◌+◌, ap, arith, drop, refl, sym}
use Rattle.bus_log.specs.LogQueues.{LogState, after_text}
use Rattle.bus_log.proofs.Logging.{text-more, text-none}
use Rattle.bus_log.proofs.log_queue.LogQueue.print.Goals as goal

pub loop-byte-init : goal.loop-byte-init
loop-byte-init c = refl

pub loop-byte-preserved : goal.loop-byte-preserved
loop-byte-preserved c =
    ap (λ (log : LogState). after_text log (drop (c.loop-byte.byte-index + 1) c.args.text.now)) c.take.ensures
    ∙ sym (text-more c.loop-byte.self c.args.text.now c.loop-byte.byte-index c.loop-byte-test.true) ∙ c.loop-byte.invariant

pub returns : goal.returns
returns c = sym (text-none c.loop-byte.self c.args.text.now c.loop-byte.byte-index (omega (arith, c.loop-byte-test.false))) ∙ c.loop-byte.invariant
