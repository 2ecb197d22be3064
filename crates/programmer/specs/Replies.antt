-- The reply to a message for slot 124 (LocoNet Personal Use Edition 1.0, programmer task start).
use Rattle.std.specs.Prelude.{ℕ, Bool, true, List, [], ◌∷◌}
use Rattle.programmer.specs.declared.reply.TaskReply.{TaskReply}
use Rattle.programmer.specs.declared.reply.TaskReply.TheVariants.{Accepted, Busy, NotImplemented, Data}
use Rattle.programmer.specs.Requests.{is_legal_result, result_bytes, sealed}

-- a long acknowledge of a write of a slot, or the slot's data
abbrev pub reply_bytes : TaskReply → List ℕ
reply_bytes Accepted = sealed (0xB4 ∷ 0x6F ∷ 0x01 ∷ [])
reply_bytes Busy = sealed (0xB4 ∷ 0x6F ∷ 0x00 ∷ [])
reply_bytes NotImplemented = sealed (0xB4 ∷ 0x6F ∷ 0x7F ∷ [])
reply_bytes (Data ended) = result_bytes ended

abbrev pub is_legal_reply : TaskReply → Bool
is_legal_reply Accepted = true
is_legal_reply Busy = true
is_legal_reply NotImplemented = true
is_legal_reply (Data ended) = is_legal_result ended
