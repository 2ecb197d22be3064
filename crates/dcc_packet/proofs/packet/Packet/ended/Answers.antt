use Rattle.std.proofs.Common.{◌≡◌, refl}
use Rattle.dcc_packet.specs.Form.{with_check}
use Rattle.dcc_packet.proofs.Bytes.{packet-sealed}
use Rattle.dcc_packet.proofs.packet.Packet.ended.Goals as goal

pub invariant_of-result : goal.invariant_of-result
invariant_of-result c =
    let is : c.push.new.self.items ≡ with_check c.args.bytes.items = rw (c.push.ensures.items, c.check_of-check.ensures.check, c.as_slice.ensures.value) refl in
    rw is (packet-sealed c.args.bytes.items (λ i. rw (← c.as_slice.ensures.value) (c.check_of-check.ensures.bytes i)) c.requires.some c.requires.room)
