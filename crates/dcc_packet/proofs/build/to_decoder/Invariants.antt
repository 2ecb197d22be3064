use Rattle.std.proofs.Common.{◌≡◌, ◌+◌, ◌≤◌, ◌++◌, length, take}
use Rattle.dcc_packet.specs.Address.{address_bytes}
use Rattle.dcc_packet.proofs.build.to_decoder.Given as goal

-- the address and the instruction so far
abbrev pub invariant-loop-byte : goal.invariant-loop-byte
invariant-loop-byte l = record {
  items : l.body.items ≡ address_bytes l.fn.address ++ take l.byte-index l.instruction;
  some : 1 + l.byte-index ≤ length l.body.items;
  few : length l.body.items ≤ 2 + l.byte-index;
}
