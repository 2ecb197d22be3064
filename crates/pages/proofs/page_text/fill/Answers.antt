use Rattle.std.proofs.Common.{◌++◌, ◌∙◌, append_assoc, List, ℕ, ap, ap₂, arith, slice_index, sym, take}
use Rattle.pages.specs.PageText.{line_after, line_along, page_text, with_words}
use Rattle.pages.proofs.PageTexts.{along-more, text-more}
use Rattle.pages.proofs.page_text.fill.Goals as goal

pub loop-count-preserved : goal.loop-count-preserved
loop-count-preserved c =
    let start = c.args.line.now.items in
    let queue = c.args.queue.now.items in
    let bytes = c.args.bytes.now in
    let i = c.loop-count.count in
    let b = slice_index bytes i in
    let along = line_along start (take i bytes) in
    let taken = c.loop-count.invariant in
    record {
      line = c.take_byte.ensures.line ∙ ap (λ (l : List ℕ). line_after l b) taken.line ∙ sym (along-more start bytes i (omega arith));
      queue = c.take_byte.ensures.queue
          ∙ ap₂ (λ (q l : List ℕ). q ++ with_words l b) taken.queue taken.line
          ∙ append_assoc queue (page_text start (take i bytes)) (with_words along b)
          ∙ ap (λ (t : List ℕ). queue ++ t) (sym (text-more start bytes i (omega arith)));
    }
