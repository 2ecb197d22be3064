-- The instruction of a packet as a function of its bytes, for those who fold over packets. What it
-- means is `Spells`: that the two agree is a law of this crate (`spellings_are_read`).
use Rattle.std.specs.Prelude.{ℕ, ◌+◌, ◌-◌, ◌*◌, ◌/◌, ◌%◌, ◌==◌, ◌&&◌, nat_le, Bool, if◌then◌else◌, List, [], ◌∷◌, Option, Some, None}
use Rattle.dcc_packet.specs.declared.address.Address.{Address}
use Rattle.dcc_packet.specs.declared.address.Address.TheVariants.{Short, Long}
use Rattle.dcc_packet.specs.declared.instr.Instr.{Instr}
use Rattle.dcc_packet.specs.declared.instr.Instr.TheVariants.{Idle, Reset, StopAll, Speed, Speed128, GroupOne, GroupTwo, GroupThree, Accessory}
use Rattle.dcc_packet.specs.Module.{is_module}
use Rattle.dcc_packet.specs.Packet.{is_checked, is_packet}

abbrev pub is_set : ℕ → Bool
is_set n = (n % 2) == 1

-- behind 00000000
unfoldable pub broadcast_of : ℕ → Option Instr
broadcast_of byte =
    if byte == 0 then Some Reset else
    (if (byte / 64 == 1) && (byte / 2 % 8 == 0) then Some (StopAll (is_set byte)) else None)

unfoldable pub accessory_of : ℕ → ℕ → Option Instr
accessory_of first second =
    let number = first % 64 + 64 * (7 - second / 16 % 8) in
    if nat_le 128 second && is_module number then Some (Accessory number (second / 2 % 4) (is_set second) (is_set (second / 8))) else None

-- one byte behind an address
unfoldable pub short_form_of : Address → ℕ → Option Instr
short_form_of address byte =
    if byte / 64 == 1 then Some (Speed address (is_set (byte / 32)) (byte % 32)) else
    (if byte / 32 == 4 then Some (GroupOne address (byte % 32)) else
    (if byte / 16 == 11 then Some (GroupTwo address (byte % 16)) else
    (if byte / 16 == 10 then Some (GroupThree address (byte % 16)) else None)))

-- two bytes behind an address
unfoldable pub long_form_of : Address → ℕ → ℕ → Option Instr
long_form_of address first second =
    if first == 63 then Some (Speed128 address (is_set (second / 128)) (second % 128)) else None

-- the bytes behind an address, the check last
unfoldable pub addressed_of : Address → List ℕ → Option Instr
addressed_of address (byte ∷ check ∷ []) = short_form_of address byte
addressed_of address (first ∷ second ∷ check ∷ []) = long_form_of address first second
addressed_of address _ = None

unfoldable pub long_addressed_of : ℕ → List ℕ → Option Instr
long_addressed_of high (low ∷ rest) = addressed_of (Long ((high - 192) * 256 + low)) rest
long_addressed_of high [] = None

-- the bytes after a first byte that is no locomotive's, the check last
unfoldable pub other_of : ℕ → List ℕ → Option Instr
other_of first (second ∷ check ∷ []) =
    if first == 0 then broadcast_of second else
    (if first / 64 == 2 then accessory_of first second else
    (if (first == 255) && (second == 0) then Some Idle else None))
other_of first _ = None

-- S-9.2.1, 2.1 address partitions, by the first byte
abbrev pub form_of : List ℕ → Option Instr
form_of (first ∷ rest) =
    if nat_le 1 first && nat_le first 127 then addressed_of (Short first) rest else
    (if nat_le 192 first && nat_le first 231 then long_addressed_of first rest else other_of first rest)
form_of [] = None

-- none for what is no packet, has a wrong check byte or has no listed form
unfoldable pub instruction_of : List ℕ → Option Instr
instruction_of bytes = if is_packet bytes && is_checked bytes then form_of bytes else None
