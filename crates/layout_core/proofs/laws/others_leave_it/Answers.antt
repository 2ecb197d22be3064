use Rattle.layout_core.proofs.Requests.{Spelling}
use Rattle.layout_core.proofs.Others.{silent, not_for_it, idle_leaves, switch_leaves}
use Rattle.layout_core.proofs.laws.others_leave_it.Goals as goal

spelling : goal.After-sent_packets_spell → Spelling
spelling c = record { read = c.spellings_are_read.ensures.read; speed = c.sent_packets_spell.ensures.speed; group_one = c.sent_packets_spell.ensures.group_one; group_two = c.sent_packets_spell.ensures.group_two; group_three = c.sent_packets_spell.ensures.group_three }

pub returns-clause-not_its_own : goal.returns-clause-not_its_own
returns-clause-not_its_own c cv b e packet is entry silent of = not_for_it (spelling c) cv b e packet is entry silent of

pub returns-clause-other_address : goal.returns-clause-other_address
returns-clause-other_address c cv a b e packet is entry answers differs of =
    not_for_it (spelling c) cv b e packet is entry (silent cv a b answers differs) of

pub returns-clause-idle : goal.returns-clause-idle
returns-clause-idle c = idle_leaves (spelling c) c.sent_packets_spell.ensures.idle

pub returns-clause-accessory : goal.returns-clause-accessory
returns-clause-accessory c cv number closed on = switch_leaves (spelling c) number closed on cv
