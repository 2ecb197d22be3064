-- What OPC_IMM_PACKET asks. Which packets are taken is this project's own profile: those of
-- function group three, for a locomotive that is in a slot.
use Rattle.std.specs.Prelude.{ℕ, ◌+◌, ◌-◌, ◌*◌, ◌/◌, ◌%◌, ◌==◌, ◌&&◌, Bool, nat_le, if◌then◌else◌, List, [], ◌∷◌, take, Option, Some, None}
use Rattle.slot_table.specs.Desk.{Desk}
use Rattle.slot_table.specs.declared.field.Field.TheVariants as field
use Rattle.slot_table.specs.Reading.{slot_of}
use Rattle.slot_table.specs.Writes.{after_field}
use Rattle.station_core.specs.declared.immediate.More.{More}

-- S-9.2.1, 2.3.5: 1010DDDD, the bits being F12 to F9
abbrev pub is_group_three : ℕ → Bool
is_group_three byte = byte / 16 == 10

-- the slot of this address and the functions, where it has one
abbrev pub more_in : Option ℕ → ℕ → Option More
more_in None bits = None
more_in (Some slot) bits = Some (record { slot = slot; bits = bits })

-- The slot and its F9 to F12 that the bytes of a packet ask for, the check not among them: an
-- address and 1010DDDD. An address is one byte, 1 to 127, or two, the first 192 to 231; no slot's
-- address below 128 is sent as two.
abbrev pub more_asked : Desk → List ℕ → Option More
more_asked desk (short ∷ byte ∷ []) =
    if nat_le 1 short && nat_le short 127 && is_group_three byte then more_in (slot_of desk short) (byte % 16) else None
more_asked desk (high ∷ low ∷ byte ∷ []) =
    let address = (high - 192) * 256 + low in
    if nat_le 192 high && nat_le high 231 && nat_le 128 address && is_group_three byte then more_in (slot_of desk address) (byte % 16) else None
more_asked desk _ = None

-- f9 to F12 that the first `count` of the five bytes ask for
abbrev pub more_of : Desk → (count im1 im2 im3 im4 im5 : ℕ) → Option More
more_of desk count im1 im2 im3 im4 im5 = more_asked desk (take count (im1 ∷ im2 ∷ im3 ∷ im4 ∷ im5 ∷ []))

-- the slots with those functions
abbrev pub with_more : Desk → Option More → Desk
with_more desk None = desk
with_more desk (Some more) = after_field desk more.slot (field.More more.bits)
