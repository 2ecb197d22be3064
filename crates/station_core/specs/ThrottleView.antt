-- What throttles can know of a station: the bytes that came on each of its lines, and the desk with
-- its power. What is sent next is no part of it.
use Rattle.std.specs.Prelude.{ℕ, List, [], ◌∷◌, ◌++◌, Option, Some, None, slice_index_or, slice_set}
use Rattle.ln_frame.specs.Stream.{message_at_end}
use Rattle.ln_ops.specs.Message.{op_of}
use Rattle.station_core.specs.After.{after}
use Rattle.station_core.specs.Powered.{PoweredDesk}
use Rattle.station_core.specs.declared.call.Call.{Call}
use Rattle.station_core.specs.declared.call.Call.TheVariants.{Byte, Turn}

pub record ThrottleView : Type 0 where
  -- the bytes of each line so far
  pub lines : List (List ℕ)
  pub powered : PoweredDesk

-- the bytes of one line so far
abbrev pub bytes_of : ThrottleView → ℕ → List ℕ
bytes_of known line = slice_index_or known.lines line []

-- the desk after a message, if there is one
abbrev pub carried_out : PoweredDesk → Option (List ℕ) → PoweredDesk
carried_out powered None = powered
carried_out powered (Some message) = after powered (op_of message)

-- A byte comes on its line alone. If the bytes of that line then end in a whole message, it is
-- carried out.
abbrev pub with_byte : ThrottleView → ℕ → List ℕ → ThrottleView
with_byte known line bytes = record { lines = slice_set known.lines line bytes; powered = carried_out known.powered (message_at_end bytes) }

-- what a call makes of it; a turn changes nothing
unfoldable pub known_after : ThrottleView → Call → ThrottleView
known_after known (Byte line byte) = with_byte known line (bytes_of known line ++ byte ∷ [])
known_after known Turn = known

abbrev pub known_after_all : ThrottleView → List Call → ThrottleView
known_after_all known [] = known
known_after_all known (call ∷ calls) = known_after_all (known_after known call) calls
