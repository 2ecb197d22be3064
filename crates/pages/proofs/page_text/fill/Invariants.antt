use Rattle.std.proofs.Common.{◌≡◌, ◌++◌, take}
use Rattle.pages.specs.PageText.{line_along, page_text}
use Rattle.pages.proofs.page_text.fill.Given as goal

abbrev pub invariant-loop-count : goal.invariant-loop-count
invariant-loop-count l = record {
  line : l.line.items ≡ line_along l.initial.line.items (take l.count l.bytes);
  queue : l.queue.items ≡ l.initial.queue.items ++ page_text l.initial.line.items (take l.count l.bytes);
}
