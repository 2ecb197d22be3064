use Rattle.std.proofs.Common.{rules, ◌≡◌, ◌∙◌, ◌∷◌, [], ap, sym}
use Rattle.bus_log.specs.LogQueues.{LogState, after_text}
use Rattle.bus_log.proofs.Logging.{text-append}
use Rattle.bus_log.proofs.log_queue.LogQueue.print_line.Goals as goal

pub returns : goal.returns
returns c =
    let bytes : c.as_bytes.result.now ≡ c.args.line.now.bytes = search rules in
    c.print-2.ensures
    ∙ ap (λ (log : LogState). after_text log (10 ∷ [])) (c.print.ensures ∙ ap (after_text c.args.self.now) bytes)
    ∙ sym (text-append c.args.self.now c.args.line.now.bytes (10 ∷ []))
