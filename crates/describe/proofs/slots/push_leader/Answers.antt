use Rattle.describe.specs.Messages.{leader_words}
use Rattle.describe.proofs.slots.push_leader.Goals as goal

pub returns-clause-text : goal.returns-clause-text
unfolding leader_words
returns-clause-text c = c.push_byte.ensures.text
