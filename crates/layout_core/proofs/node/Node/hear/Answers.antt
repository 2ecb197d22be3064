use Rattle.layout_core.proofs.Hearing.{loco_hears, accessory_hears}
use Rattle.layout_core.proofs.node.Node.hear.Goals as goal

pub returns-in-Loco : goal.returns-in-Loco
returns-in-Loco c = rw c.in-Loco.is (record { hears = loco_hears c.args.packet.now c.in-Loco.loco c.hear_packet.new.self c.hear_packet.ensures.hears c.hear_packet.ensures.settles c.hear_packet.ensures.obeys })

pub returns-in-Accessory : goal.returns-in-Accessory
returns-in-Accessory c = rw c.in-Accessory.is (record { hears = accessory_hears c.args.packet.now c.in-Accessory.accessory c.hear_packet-in-Accessory.new.self c.hear_packet-in-Accessory.ensures.hears c.hear_packet-in-Accessory.ensures.settles c.hear_packet-in-Accessory.ensures.obeys })
