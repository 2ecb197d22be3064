use Rattle.layout_core.proofs.Requests.{Spelling, Speeds}
use Rattle.layout_core.proofs.Fields.{settles}
use Rattle.layout_core.proofs.laws.settling.Goals as goal

pub returns : goal.returns
returns c cv a e start packets asked tells =
    let spelling : Spelling = record { read = c.spellings_are_read.ensures.read; speed = c.sent_packets_spell.ensures.speed; group_one = c.sent_packets_spell.ensures.group_one; group_two = c.sent_packets_spell.ensures.group_two; group_three = c.sent_packets_spell.ensures.group_three } in
    let speeds : Speeds = record { fourteen = c.speeds_read_back.ensures.fourteen; twenty_eight = c.speeds_read_back.ensures.twenty_eight; in_two_bytes = c.speeds_read_back.ensures.in_two_bytes } in
    settles spelling speeds cv a e asked start packets tells
