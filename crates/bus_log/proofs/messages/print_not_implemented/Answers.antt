use Rattle.std.proofs.Common.{◌≡◌, ◌∙◌, ◌∷◌, ◌++◌, [], ap, append_assoc, codes, sym}
use Rattle.bus_log.specs.Lines.{sent_line}
use Rattle.bus_log.specs.LogQueues.{LogState, after_text}
use Rattle.bus_log.proofs.Logging.{text-append}
use Rattle.bus_log.proofs.messages.print_not_implemented.Goals as goal

pub returns : goal.returns
returns c =
    let old = c.args.log.now in
    let line = sent_line c.args.reply.now in
    let bytes : c.as_slice.result.now ≡ line = c.as_slice.ensures.value ∙ c.message_line.ensures in
    c.print-2.ensures
    ∙ ap (λ (log : LogState). after_text log (codes ", operations mode is not implemented" ++ 10 ∷ [])) (c.print.ensures ∙ ap (after_text old) bytes)
    ∙ sym (text-append old line (codes ", operations mode is not implemented" ++ 10 ∷ []))
    ∙ ap (after_text old) (sym (append_assoc line (codes ", operations mode is not implemented") (10 ∷ [])))
