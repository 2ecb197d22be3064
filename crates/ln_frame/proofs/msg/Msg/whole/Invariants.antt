use Rattle.std.proofs.Common.{◌≡◌, take}
use Rattle.ln_frame.proofs.msg.Msg.whole.Given as goal

-- the bytes so far
abbrev pub invariant-loop-byte : goal.invariant-loop-byte
invariant-loop-byte l = l.message.items ≡ take l.byte-index l.bytes
