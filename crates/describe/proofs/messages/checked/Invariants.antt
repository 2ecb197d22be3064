use Rattle.std.proofs.Common.{◌≡◌, take}
use Rattle.describe.proofs.messages.checked.Given as goal

-- the bytes so far
abbrev pub invariant-loop-byte : goal.invariant-loop-byte
invariant-loop-byte l = l.packet.items ≡ take l.byte-index l.body
