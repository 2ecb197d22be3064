-- The bytes of a reply (LocoNet, OPC_SL_RD_DATA and OPC_LONG_ACK).
use Rattle.std.specs.Prelude.{ℕ, ◌&&◌, Bool, true, nat_lt, List, [], ◌∷◌, ◌++◌, IsTrue}
use Rattle.ln_frame.specs.Message.{check_of}
use Rattle.ln_ops.specs.Fields.{SlotBytes}
use Rattle.ln_ops.specs.declared.reply.Reply.{Reply}
use Rattle.ln_ops.specs.declared.reply.Reply.TheVariants.{SlotData, LongAck}

-- the bytes of slot data, in their order
abbrev pub data_bytes : SlotBytes → List ℕ
data_bytes f = f.slot ∷ f.stat ∷ f.adr ∷ f.spd ∷ f.dirf ∷ f.trk ∷ f.ss2 ∷ f.adr2 ∷ f.snd ∷ f.id1 ∷ f.id2 ∷ []

-- the bytes of a reply before its check
abbrev pub body_of : Reply → List ℕ
body_of (SlotData f) = 0xE7 ∷ 0x0E ∷ data_bytes f
body_of (LongAck opc ack) = 0xB4 ∷ opc ∷ ack ∷ []

-- the message of a reply
abbrev pub reply_bytes : Reply → List ℕ
reply_bytes reply = body_of reply ++ check_of (body_of reply) ∷ []

-- what a line can carry: the bytes of an acknowledge are data
abbrev pub is_sendable : Reply → Bool
is_sendable (SlotData f) = true
is_sendable (LongAck opc ack) = nat_lt opc 128 && nat_lt ack 128

abbrev pub IsSendable : Reply → Type 0
IsSendable reply = IsTrue (is_sendable reply)
