use Rattle.std.proofs.Common.{◌≡◌, ◌∙◌, ◌∷◌, [], ap, sym}
use Rattle.bus_log.specs.Lines.{sent_line}
use Rattle.bus_log.specs.LogQueues.{LogState, after_text}
use Rattle.bus_log.proofs.Logging.{text-append}
use Rattle.bus_log.proofs.messages.print_message.Goals as goal

pub returns : goal.returns
returns c =
    let bytes : c.as_slice.result.now ≡ sent_line c.args.message.now =
    c.as_slice.ensures.value ∙ c.message_line.ensures in
    c.print-2.ensures
    ∙ ap (λ (log : LogState). after_text log (10 ∷ []))
    (c.print.ensures ∙ ap (after_text c.args.log.now) bytes)
    ∙ sym (text-append c.args.log.now (sent_line c.args.message.now) (10 ∷ []))
