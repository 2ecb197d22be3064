-- The answer to an event, for C.
use Rattle.std.specs.Prelude.{ℕ, ◌-◌, List, [], ◌++◌, length, replicate}
use Rattle.ln_ops.specs.Reply.{reply_bytes}
use Rattle.station_core.specs.declared.call.Step.{Step}
use Rattle.station_core.specs.declared.call.Step.TheVariants.{Quiet, Reply, Packet, Off}
use Rattle.station_c.specs.declared.answer.Answer.{Answer}

-- these bytes, followed by zeros up to 14
abbrev pub padded : List ℕ → List ℕ
padded bytes = bytes ++ replicate (14 - length bytes) 0

abbrev pub filled : (kind : ℕ) → List ℕ → Answer
filled kind bytes = record { kind = kind; size = length bytes; bytes = padded bytes }

-- nothing, the bytes of a reply, those of a packet, or a turn without power
abbrev pub answered : Step → Answer
answered Quiet = filled 0 []
answered (Reply reply) = filled 1 (reply_bytes reply)
answered (Packet packet) = filled 2 packet
answered Off = filled 3 []
