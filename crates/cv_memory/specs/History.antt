-- A decoder by the packets that it heard, the latest first.
use Rattle.std.specs.Prelude.{ℕ, Bool, true, false, List, [], ◌∷◌, Option, Some, None}
use Rattle.service_mode.specs.declared.instruction.Instruction.{Instruction}
use Rattle.service_mode.specs.declared.instruction.Instruction.TheVariants.{VerifyByte, WriteByte, VerifyBit, WriteBit}
use Rattle.service_mode.specs.declared.packet.ServicePacket.{ServicePacket}
use Rattle.service_mode.specs.declared.packet.ServicePacket.TheVariants.{Reset, Direct}
use Rattle.service_mode.specs.Spelling.{is_same}
use Rattle.cv_memory.specs.Hearing.{CvState, heard, is_reset}

abbrev pub some_packet : Instruction → Option ServicePacket
some_packet i = Some (Direct i)

-- a decoder that has heard nothing
abbrev pub unheard : (values filed : List ℕ) → CvState
unheard values filed = record { values = values; filed = filed; service = false; last = None }

-- one that has heard these packets, none for what is no packet of service mode
abbrev pub after_all : (values filed : List ℕ) → List (Option ServicePacket) → CvState
after_all values filed [] = unheard values filed
after_all values filed (packet ∷ packets) = heard (after_all values filed packets) packet

-- there was a reset, and nothing but instructions came since
abbrev pub in_service : List (Option ServicePacket) → Bool
in_service [] = false
in_service (None ∷ packets) = false
in_service (Some Reset ∷ packets) = true
in_service (Some (Direct i) ∷ packets) = in_service packets

-- the latest packet was this instruction
abbrev pub was_last : List (Option ServicePacket) → Instruction → Bool
was_last [] i = false
was_last (None ∷ packets) i = false
was_last (Some Reset ∷ packets) i = false
was_last (Some (Direct last) ∷ packets) i = is_same last i

-- the variable that an instruction names
abbrev pub address_of : Instruction → ℕ
address_of (VerifyByte address value) = address
address_of (WriteByte address value) = address
address_of (VerifyBit address bit on) = address
address_of (WriteBit address bit on) = address

-- it resets the decoder
abbrev pub resets : Instruction → Bool
resets (WriteByte address value) = is_reset address value
resets other = false
