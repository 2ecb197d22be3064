use Rattle.std.proofs.Common.{ap, arith, length}
use Rattle.std.proofs.lemmas.List.{length-drop}
use Rattle.pages.proofs.page_text.clear_if_taken.Goals as goal

pub returns-clause-room : goal.returns-clause-room
returns-clause-room c = λ empty.
    absurd (omega (arith, ap length empty, length-drop c.args.taken c.args.queue.now.items, c.requires, c.if-taken-len.false, c.len.ensures.value))
