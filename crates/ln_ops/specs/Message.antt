-- The operation of a message (LocoNet, table of opcodes).
use Rattle.std.specs.Prelude.{ℕ, ◌+◌, ◌*◌, ◌/◌, ◌%◌, ◌&&◌, ◌==◌, Bool, true, false, if◌then◌else◌, nat_lt, nat_le, List, [], ◌∷◌, slice_index, IsTrue}
use Rattle.ln_ops.specs.Fields.{SlotBytes, slot_bytes}
use Rattle.ln_ops.specs.declared.op.Op.{Op}
use Rattle.ln_ops.specs.declared.op.Op.TheVariants.{PowerOff, PowerOn, ForceIdle, Speed, Dirf, Snd, SwReq, SwAck, LongAck, SlotStat, Move, SlotRead, LocoAddr, SlotData, SlotWrite, Imm, Other}

-- SW1 is A6 to A0 of the switch's number, and bits 3 to 0 of SW2 are A10 to A7
abbrev pub switch_number : ℕ → ℕ → ℕ
switch_number sw1 sw2 = sw2 % 16 * 128 + sw1

-- bit 5 of SW2 is DIR: 1 is closed. Bit 6 is ignored (own).
abbrev pub is_closed : ℕ → Bool
is_closed sw2 = sw2 / 32 % 2 == 1

-- bit 4 of SW2 is ON
abbrev pub is_on : ℕ → Bool
is_on sw2 = sw2 / 16 % 2 == 1

-- what OPC_SW_REQ asks for, and OPC_SW_ACK, which asks for a long acknowledge too
abbrev pub switch_of : (acknowledged : Bool) → ℕ → ℕ → Op
switch_of true sw1 sw2 = SwAck (switch_number sw1 sw2) (is_closed sw2) (is_on sw2)
switch_of false sw1 sw2 = SwReq (switch_number sw1 sw2) (is_closed sw2) (is_on sw2)

-- the slot data behind opcode and count
abbrev pub fields_of : List ℕ → SlotBytes
fields_of m =
    slot_bytes (slice_index m 2) (slice_index m 3) (slice_index m 4) (slice_index m 5)
    (slice_index m 6) (slice_index m 7) (slice_index m 8) (slice_index m 9)
    (slice_index m 10) (slice_index m 11) (slice_index m 12)

-- bit 7 of an IM byte is in DHI, the other seven bits in the byte
abbrev pub im_byte : ℕ → ℕ → ℕ
im_byte top low = top * 128 + low

-- OPC_IMM_PACKET, ED 0B 7F REPS DHI IM1 to IM5: bits 6 to 4 of REPS are the number of IM bytes,
-- bits 0 to 4 of DHI are bit 7 of IM1 to IM5. The other bits of REPS and DHI are ignored, and all
-- five bytes are given (own).
abbrev pub imm_of : List ℕ → Op
imm_of m =
    Imm (slice_index m 3 / 16 % 8)
    (im_byte (slice_index m 4 % 2) (slice_index m 5))
    (im_byte (slice_index m 4 / 2 % 2) (slice_index m 6))
    (im_byte (slice_index m 4 / 4 % 2) (slice_index m 7))
    (im_byte (slice_index m 4 / 8 % 2) (slice_index m 8))
    (im_byte (slice_index m 4 / 16 % 2) (slice_index m 9))

-- the five IM bytes of OPC_IMM_PACKET; zeros of any other operation
abbrev pub im_bytes_of : Op → List ℕ
im_bytes_of (Imm count im1 im2 im3 im4 im5) = im1 ∷ im2 ∷ im3 ∷ im4 ∷ im5 ∷ []
im_bytes_of _ = 0 ∷ 0 ∷ 0 ∷ 0 ∷ 0 ∷ []

-- messages of four bytes, the opcode and two bytes of data: OPC_LOCO_SPD, OPC_LOCO_DIRF,
-- OPC_LOCO_SND, OPC_SW_REQ, OPC_SW_ACK, OPC_LONG_ACK, OPC_SLOT_STAT1, OPC_MOVE_SLOTS,
-- OPC_RQ_SL_DATA and OPC_LOCO_ADR
abbrev pub four_of : ℕ → ℕ → ℕ → Op
four_of opcode first second =
    if opcode == 0xA0 then Speed first second else
    (if opcode == 0xA1 then Dirf first second else
    (if opcode == 0xA2 then Snd first second else
    (if opcode == 0xB0 then SwReq (switch_number first second) (is_closed second) (is_on second) else
    (if opcode == 0xBD then SwAck (switch_number first second) (is_closed second) (is_on second) else
    (if opcode == 0xB4 then LongAck first second else
    (if opcode == 0xB5 then SlotStat first second else
    (if opcode == 0xBA then Move first second else
    (if opcode == 0xBB then SlotRead first else
    (if opcode == 0xBF then LocoAddr first second else Other)))))))))

-- the operation of a whole message: OPC_GPOFF, OPC_GPON, OPC_IDLE, those of four bytes,
-- OPC_SL_RD_DATA and OPC_WR_SL_DATA with count 0E, and OPC_IMM_PACKET with count 0B, followed by
-- 7F. No other message is known (own).
abbrev pub op_of : List ℕ → Op
op_of m =
    if slice_index m 0 == 0x82 then PowerOff else
    (if slice_index m 0 == 0x83 then PowerOn else
    (if slice_index m 0 == 0x85 then ForceIdle else
    (if nat_le 160 (slice_index m 0) && nat_le (slice_index m 0) 191 then four_of (slice_index m 0) (slice_index m 1) (slice_index m 2) else
    (if (slice_index m 0 == 0xE7) && (slice_index m 1 == 14) then SlotData (fields_of m) else
    (if (slice_index m 0 == 0xEF) && (slice_index m 1 == 14) then SlotWrite (fields_of m) else
    (if (slice_index m 0 == 0xED) && ((slice_index m 1 == 11) && (slice_index m 2 == 127)) then imm_of m else Other))))))

abbrev pub are_data : ℕ → ℕ → Bool
are_data first second = nat_lt first 128 && nat_lt second 128

abbrev pub are_bytes : ℕ → ℕ → ℕ → ℕ → ℕ → Bool
are_bytes im1 im2 im3 im4 im5 =
    nat_lt im1 256 && (nat_lt im2 256 && (nat_lt im3 256 && (nat_lt im4 256 && nat_lt im5 256)))

-- what holds of every operation that a whole message is: its bytes are data, a switch has eleven
-- bits, a number of IM bytes three, and an IM byte eight
abbrev pub is_of_data : Op → Bool
is_of_data PowerOff = true
is_of_data PowerOn = true
is_of_data ForceIdle = true
is_of_data (Speed slot spd) = are_data slot spd
is_of_data (Dirf slot dirf) = are_data slot dirf
is_of_data (Snd slot snd) = are_data slot snd
is_of_data (SwReq number closed on) = nat_lt number 2048
is_of_data (SwAck number closed on) = nat_lt number 2048
is_of_data (LongAck opc ack) = are_data opc ack
is_of_data (SlotStat slot stat) = are_data slot stat
is_of_data (Move src dest) = are_data src dest
is_of_data (SlotRead slot) = nat_lt slot 128
is_of_data (LocoAddr high low) = are_data high low
is_of_data (SlotData fields) = true
is_of_data (SlotWrite fields) = true
is_of_data (Imm count im1 im2 im3 im4 im5) = nat_lt count 8 && are_bytes im1 im2 im3 im4 im5
is_of_data Other = true

abbrev pub IsOfData : Op → Type 0
IsOfData op = IsTrue (is_of_data op)
