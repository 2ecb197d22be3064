-- How the packets of direct mode are spelled (NMRA S-9.2.3, direct mode: 0111CCAA AAAAAAAA DDDDDDDD
-- and a check, with CC 01 verify byte, 11 write byte, 10 bit manipulation, where the data are
-- 111KDBBB with K 1 write and 0 verify). AAAAAAAAAA is one less than the variable's number.
use Rattle.std.specs.Prelude.{ℕ, ◌+◌, ◌*◌, ◌/◌, ◌%◌, ◌==◌, ◌&&◌, nat_lt, Bool, true, false, List, [], ◌∷◌, bit_xor}
use Rattle.service_mode.specs.declared.instruction.Instruction.{Instruction}
use Rattle.service_mode.specs.declared.instruction.Instruction.TheVariants.{VerifyByte, WriteByte, VerifyBit, WriteBit}
use Rattle.service_mode.specs.declared.packet.ServicePacket.{ServicePacket}
use Rattle.service_mode.specs.declared.packet.ServicePacket.TheVariants.{Reset, Direct}

-- a truth value as a bit
abbrev pub digit : Bool → ℕ
digit true = 1
digit false = 0

-- the exclusive or of three bytes
abbrev pub check_of : ℕ → ℕ → ℕ → ℕ
check_of first second third = bit_xor (bit_xor first second) third

-- 0111CCAA AAAAAAAA DDDDDDDD
abbrev pub body_of : Instruction → List ℕ
-- CC 01
body_of (VerifyByte address value) = (0x74 + address / 256) ∷ (address % 256) ∷ value ∷ []
-- CC 11
body_of (WriteByte address value) = (0x7C + address / 256) ∷ (address % 256) ∷ value ∷ []
-- CC 10, 1110DBBB
body_of (VerifyBit address bit on) = (0x78 + address / 256) ∷ (address % 256) ∷ (0xE0 + 8 * digit on + bit) ∷ []
-- CC 10, 1111DBBB
body_of (WriteBit address bit on) = (0x78 + address / 256) ∷ (address % 256) ∷ (0xF0 + 8 * digit on + bit) ∷ []

-- with the check behind them
abbrev pub sealed : List ℕ → List ℕ
sealed (first ∷ second ∷ third ∷ []) = first ∷ second ∷ third ∷ check_of first second third ∷ []
sealed other = other

-- the bytes of a packet
abbrev pub bytes_of : ServicePacket → List ℕ
bytes_of Reset = 0 ∷ 0 ∷ 0 ∷ []
bytes_of (Direct instruction) = sealed (body_of instruction)

-- a variable is one of CV1 to CV1024, a bit one of 0 to 7
abbrev pub is_legal : Instruction → Bool
is_legal (VerifyByte address value) = nat_lt address 1024
is_legal (WriteByte address value) = nat_lt address 1024
is_legal (VerifyBit address bit on) = nat_lt address 1024 && nat_lt bit 8
is_legal (WriteBit address bit on) = nat_lt address 1024 && nat_lt bit 8

abbrev pub is_legal_packet : ServicePacket → Bool
is_legal_packet Reset = true
is_legal_packet (Direct instruction) = is_legal instruction

abbrev pub is_same_bool : Bool → Bool → Bool
is_same_bool true b = b
is_same_bool false true = false
is_same_bool false false = true

-- two instructions are the same
abbrev pub is_same : Instruction → Instruction → Bool
is_same (VerifyByte a x) (VerifyByte b y) = (a == b) && (x == y)
is_same (WriteByte a x) (WriteByte b y) = (a == b) && (x == y)
is_same (VerifyBit a i x) (VerifyBit b j y) = (a == b) && (i == j) && is_same_bool x y
is_same (WriteBit a i x) (WriteBit b j y) = (a == b) && (i == j) && is_same_bool x y
is_same _ _ = false
