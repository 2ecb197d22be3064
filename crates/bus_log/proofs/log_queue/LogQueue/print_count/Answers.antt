use Rattle.std.proofs.Common.{◌≡◌, ◌∙◌, ◌∷◌, ◌++◌, [], ℕ, List, ap, decimal, sym}
use Rattle.bus_log.specs.LogQueues.{LogState, after_text}
use Rattle.bus_log.proofs.Logging.{text-append}
use Rattle.bus_log.proofs.log_queue.LogQueue.print_count.Goals as goal

pub returns : goal.returns
returns c =
    let old : LogState = c.args.self.now in
    let before : List ℕ = c.args.before.now in
    let number : List ℕ = decimal c.args.number in
    let behind : List ℕ = c.args.behind.now in
    let first : c.print.new.self ≡ after_text old before = c.print.ensures ∙ ap (after_text old) c.as_bytes.ensures.value in
    let second : c.print-2.new.self ≡ after_text old (before ++ number) =
    c.print-2.ensures ∙ ap (after_text c.print.new.self) (c.as_slice.ensures.value ∙ c.decimal_digits.ensures.text) ∙ ap (λ (log : LogState). after_text log number) first ∙ sym (text-append old before number) in
    let third : c.print-3.new.self ≡ after_text old (before ++ number ++ behind) =
    c.print-3.ensures ∙ ap (after_text c.print-2.new.self) c.as_bytes-2.ensures.value ∙ ap (λ (log : LogState). after_text log behind) second ∙ sym (text-append old (before ++ number) behind) in
    c.print-4.ensures ∙ ap (λ (log : LogState). after_text log (10 ∷ [])) third ∙ sym (text-append old (before ++ number ++ behind) (10 ∷ []))
