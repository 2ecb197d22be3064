use Rattle.describe.specs.Messages.{dispatch_words}
use Rattle.describe.proofs.messages.push_dispatch.Goals as goal

pub returns : goal.returns
unfolding dispatch_words
returns c = c.push_byte.ensures.text
