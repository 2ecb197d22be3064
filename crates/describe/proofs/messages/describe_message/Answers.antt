use Rattle.std.proofs.Common.{◌++◌, ap, sym, ◌∙◌}
use Rattle.ln_ops.specs.Message.{op_of}
use Rattle.describe.specs.Messages.{whole_words}
use Rattle.describe.proofs.Whole.{whole_of}
use Rattle.describe.proofs.messages.describe_message.Goals as goal

pub returns-in-Some : goal.returns-in-Some
returns-in-Some c =
    let found = whole_of c.args.bytes.now c.in-Some.message (sym c.whole.ensures ∙ c.in-Some.is) in
    rw found.0 (c.push_whole.ensures ∙ ap (λ text. text ++ whole_words (op_of c.in-Some.message) c.in-Some.message) c.clear.ensures ∙ ap (λ bytes. whole_words (op_of bytes) bytes) (sym found.1))
