use Rattle.std.proofs.Common.{◌≡◌, take}
use Rattle.dcc_packet.proofs.packet.Packet.sealed.Given as goal

-- the bytes so far
abbrev pub invariant-loop-byte : goal.invariant-loop-byte
invariant-loop-byte l = l.bytes.items ≡ take l.byte-index l.body
