use Rattle.explain.proofs.Printed.{message-words, off-words, packet-words, reply-words}
use Rattle.explain.proofs.laws.printed_lines_are_explained.Goals as goal

pub returns-clause-message : goal.returns-clause-message
returns-clause-message c = message-words c.written_bytes_are_read.ensures.before

pub returns-clause-reply : goal.returns-clause-reply
returns-clause-reply c = reply-words c.written_bytes_are_read.ensures.alone

pub returns-clause-packet : goal.returns-clause-packet
returns-clause-packet c = packet-words c.written_bytes_are_read.ensures.alone

pub returns-clause-off : goal.returns-clause-off
returns-clause-off c = off-words
