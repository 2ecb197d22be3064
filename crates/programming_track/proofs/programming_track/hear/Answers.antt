use Rattle.std.proofs.Common.{ap, ◌∙◌}
use Rattle.service_mode.specs.Reading.{packet_of}
use Rattle.cv_memory.specs.Hearing.{acknowledges, heard}
use Rattle.programming_track.proofs.programming_track.hear.Goals as goal

pub returns-clause-state : goal.returns-clause-state
returns-clause-state c =
    c.hear.ensures.state
    ∙ ap (heard c.args.decoder.now) (ap packet_of (c.bytes.ensures.value ∙ c.packet-packet.ensures) ∙ c.spellings_are_read.ensures c.args.packet c.requires)

pub returns-clause-answer : goal.returns-clause-answer
returns-clause-answer c =
    c.hear.ensures.answer
    ∙ ap (acknowledges c.args.decoder.now) (ap packet_of (c.bytes.ensures.value ∙ c.packet-packet.ensures) ∙ c.spellings_are_read.ensures c.args.packet c.requires)
