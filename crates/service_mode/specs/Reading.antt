-- The packet of bytes as a function of them. What it means is `bytes_of`: that the two agree is a
-- law of this crate.
use Rattle.std.specs.Prelude.{ℕ, ◌+◌, ◌*◌, ◌/◌, ◌%◌, ◌==◌, ◌&&◌, if◌then◌else◌, List, [], ◌∷◌, Option, Some, None, option_map}
use Rattle.service_mode.specs.declared.instruction.Instruction.{Instruction}
use Rattle.service_mode.specs.declared.instruction.Instruction.TheVariants.{VerifyByte, WriteByte, VerifyBit, WriteBit}
use Rattle.service_mode.specs.declared.packet.ServicePacket.{ServicePacket}
use Rattle.service_mode.specs.declared.packet.ServicePacket.TheVariants.{Reset, Direct}
use Rattle.service_mode.specs.Spelling.{check_of}

-- 111KDBBB
unfoldable pub bit_form_of : ℕ → ℕ → Option Instruction
bit_form_of address third =
    if third / 16 == 14 then Some (VerifyBit address (third % 8) (third / 8 % 2 == 1)) else
    (if third / 16 == 15 then Some (WriteBit address (third % 8) (third / 8 % 2 == 1)) else None)

-- 0111CCAA AAAAAAAA DDDDDDDD
unfoldable pub instruction_of : ℕ → ℕ → ℕ → Option Instruction
instruction_of first second third =
    let address = first % 4 * 256 + second in
    if first / 4 == 29 then Some (VerifyByte address third) else
    (if first / 4 == 31 then Some (WriteByte address third) else
    (if first / 4 == 30 then bit_form_of address third else None))

-- none for what is no packet of direct mode
unfoldable pub packet_of : List ℕ → Option ServicePacket
packet_of (first ∷ second ∷ third ∷ []) =
    if (first == 0) && (second == 0) && (third == 0) then Some Reset else None
packet_of (first ∷ second ∷ third ∷ check ∷ []) =
    if check == check_of first second third then option_map Direct (instruction_of first second third) else None
packet_of _ = None
