-- What an immediate packet asks for.
use Rattle.std.proofs.Common.{ℕ, ◌+◌, ◌-◌, ◌*◌, ◌%◌, ◌<◌, ◌&&◌, nat_le, Bool, true, false, Option, Some, None, IfSome, if◌then◌else◌, List, [], ◌∷◌, take, arith}
use Rattle.slot_table.specs.Desk.{Desk}
use Rattle.slot_table.specs.Reading.{slot_of}
use Rattle.station_core.specs.Immediate.{is_group_three, more_in, more_asked, more_of}
use Rattle.station_core.specs.declared.immediate.More.{More}

abbrev IsBelow : Option More → Type 0
IsBelow asked = IfSome asked (λ more. more.bits < 16)

in-below : (slot : Option ℕ) (bits : ℕ) → bits < 16 → IsBelow (more_in slot bits)
in-below None bits h = tt
in-below (Some n) bits h = h

if-below : (b : Bool) (asked : Option More) → IsBelow asked → IsBelow (if b then asked else None)
if-below true asked h = h
if-below false asked h = tt

asked-below : (desk : Desk) (bytes : List ℕ) → IsBelow (more_asked desk bytes)
asked-below desk [] = tt
asked-below desk (short ∷ []) = tt
asked-below desk (short ∷ byte ∷ []) = if-below (nat_le 1 short && nat_le short 127 && is_group_three byte) _ (in-below (slot_of desk short) (byte % 16) (omega arith))
asked-below desk (high ∷ low ∷ byte ∷ []) =
    let address : ℕ = (high - 192) * 256 + low in
    if-below (nat_le 192 high && nat_le high 231 && nat_le 128 address && is_group_three byte) _ (in-below (slot_of desk address) (byte % 16) (omega arith))
asked-below desk (a ∷ b ∷ c ∷ d ∷ rest) = tt

pub more_of-below : (desk : Desk) (count im1 im2 im3 im4 im5 : ℕ) → IfSome (more_of desk count im1 im2 im3 im4 im5) (λ more. more.bits < 16)
more_of-below desk count im1 im2 im3 im4 im5 = asked-below desk (take count (im1 ∷ im2 ∷ im3 ∷ im4 ∷ im5 ∷ []))
