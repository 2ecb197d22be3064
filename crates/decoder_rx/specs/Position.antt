-- The state of a receiver within a packet.
use Rattle.std.specs.Prelude.{ℕ, Bool, true, false, List, Option}

-- Hunting with a count of one halves, at most 20. Start: after them one zero half. InBit with the
-- whole bytes, the bits of the next byte as a number and their count, and the first half of the
-- next bit, if it was heard.
pub data Position : Type 0 where
  Hunting : (ones : ℕ) → Position
  Start : Position
  InBit : (bytes : List ℕ) (byte bits : ℕ) (first : Option Bool) → Position

-- no packet is under way
abbrev pub is_hunting : Position → Bool
is_hunting (Hunting ones) = true
is_hunting Start = false
is_hunting (InBit bytes byte bits first) = false
