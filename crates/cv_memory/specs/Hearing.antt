-- What a decoder does in service mode (NMRA S-9.2.3, direct mode).
use Rattle.std.specs.Prelude.{ℕ, ◌^◌, ◌==◌, ◌&&◌, ◌||◌, not, Bool, true, false, if◌then◌else◌, List, Option, Some, None, slice_index, slice_set, bit_xor}
use Rattle.std.specs.Int.{bit_at}
use Rattle.service_mode.specs.declared.instruction.Instruction.{Instruction}
use Rattle.service_mode.specs.declared.instruction.Instruction.TheVariants.{VerifyByte, WriteByte, VerifyBit, WriteBit}
use Rattle.service_mode.specs.declared.packet.ServicePacket.{ServicePacket}
use Rattle.service_mode.specs.declared.packet.ServicePacket.TheVariants.{Reset, Direct}
use Rattle.service_mode.specs.Spelling.{digit, is_same}

-- The values of CV1 to CV1024 now and those of its file, whether the decoder is in service mode, and
-- the instruction that it heard last if no other packet came since.
pub record CvState : Type 0 where
  pub values : List ℕ
  pub filed : List ℕ
  pub service : Bool
  pub last : Option Instruction

-- S-9.2.2: CV7, the version, and CV8, the manufacturer, are read only. An address is one less than
-- the variable's number.
abbrev pub is_read_only : (address : ℕ) → Bool
is_read_only address = (address == 6) || (address == 7)

-- 8 that is written to CV8 resets the decoder
abbrev pub is_reset : (address value : ℕ) → Bool
is_reset address value = (address == 7) && (value == 8)

-- a byte with one bit on or off
abbrev pub with_bit : (value bit : ℕ) → Bool → ℕ
with_bit value bit on = if bit_at value bit == digit on then value else bit_xor value (2 ^ bit)

-- A verify is acknowledged if the variable, or its bit, has the value; a write if the variable is
-- stored, or if it resets the decoder.
abbrev pub is_acknowledged : CvState → Instruction → Bool
is_acknowledged d (VerifyByte address value) = slice_index d.values address == value
is_acknowledged d (VerifyBit address bit on) = bit_at (slice_index d.values address) bit == digit on
is_acknowledged d (WriteByte address value) = is_reset address value || not (is_read_only address)
is_acknowledged d (WriteBit address bit on) = not (is_read_only address)

-- the variables with one of them written
abbrev pub stored : List ℕ → (address value : ℕ) → List ℕ
stored values address value = if is_read_only address then values else slice_set values address value

-- the variables after an instruction that is obeyed
abbrev pub values_after : CvState → Instruction → List ℕ
values_after d (VerifyByte address value) = d.values
values_after d (VerifyBit address bit on) = d.values
values_after d (WriteByte address value) =
    if is_reset address value then d.filed else stored d.values address value
values_after d (WriteBit address bit on) =
    stored d.values address (with_bit (slice_index d.values address) bit on)

-- an instruction is obeyed that comes in two packets in a row, in service mode
abbrev pub is_last : Option Instruction → Instruction → Bool
is_last None instruction = false
is_last (Some last) instruction = is_same last instruction

abbrev pub is_obeyed : CvState → Instruction → Bool
is_obeyed d instruction = d.service && is_last d.last instruction

-- A reset packet begins service mode, in which instructions of service mode keep it. Any other packet
-- ends it.
abbrev pub heard : CvState → Option ServicePacket → CvState
heard d None = record d { service = false; last = None }
heard d (Some Reset) = record d { service = true; last = None }
heard d (Some (Direct instruction)) = record d {
  values = if is_obeyed d instruction then values_after d instruction else d.values;
  last = if d.service then Some instruction else None;
}

-- whether it acknowledges a packet: one by which it obeys
abbrev pub acknowledges : CvState → Option ServicePacket → Bool
acknowledges d None = false
acknowledges d (Some Reset) = false
acknowledges d (Some (Direct instruction)) = is_obeyed d instruction && is_acknowledged d instruction
