use Rattle.describe.specs.Messages.{locomotive_words}
use Rattle.describe.proofs.slots.push_locomotive.Goals as goal

pub returns-clause-text : goal.returns-clause-text
unfolding locomotive_words
returns-clause-text c = c.push_halves.ensures.text
