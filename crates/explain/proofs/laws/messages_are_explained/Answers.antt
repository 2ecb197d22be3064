use Rattle.explain.proofs.Messages.{received-words, sent-words}
use Rattle.explain.proofs.laws.messages_are_explained.Goals as goal

pub returns-clause-received : goal.returns-clause-received
returns-clause-received c message whole bytes = received-words message (c.received_is_sendable.ensures message whole bytes)

pub returns-clause-sent : goal.returns-clause-sent
returns-clause-sent c message whole bytes = sent-words message (c.received_is_sendable.ensures message whole bytes)
