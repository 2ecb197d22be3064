-- Explanations of LocoNet messages in plain words (LocoNet Personal Use Edition 1.0).
use Rattle.std.specs.Prelude.{ℕ, ◌+◌, ◌-◌, ◌*◌, ◌/◌, ◌%◌, ◌==◌, ◌&&◌, Bool, true, false, nat_lt, nat_le, if◌then◌else◌, List, [], ◌∷◌, ◌++◌, length, slice_index, take, codes}
use Rattle.std.specs.Fmt.{decimal}
use Rattle.ln_frame.specs.Message.{are_data, check_of, has_form, is_whole}
use Rattle.ln_ops.specs.Fields.{SlotBytes}
use Rattle.ln_ops.specs.Message.{op_of}
use Rattle.ln_ops.specs.Slot.{address_with, is_slot}
use Rattle.ln_ops.specs.declared.op.Op.{Op}
use Rattle.ln_ops.specs.declared.op.Op.TheVariants.{PowerOff, PowerOn, ForceIdle, Speed, Dirf, Snd, SwReq, SwAck, LongAck, SlotStat, Move, SlotRead, LocoAddr, SlotData, SlotWrite, Imm, Other}
use Rattle.dcc_packet.specs.Form.{with_check}
use Rattle.describe.specs.declared.maker_rows.TheConstants.{MAKER_MESSAGES as maker_messages}
use Rattle.describe.specs.declared.message_rows.TheConstants.{LONG_ACKS as long_acks, MESSAGES as messages, SLOT_READS as slot_reads, SLOT_WRITES as slot_writes}
use Rattle.describe.specs.Fields.{light_and_four}
use Rattle.describe.specs.Packets.{direction_words, packet_words, switch_words}
use Rattle.describe.specs.Pieces.{eight_on, four_on, functions_words, hex_pair}
use Rattle.describe.specs.Rows.{Row, row_text, table_of}

-- `slot N` and its explanation
unfoldable pub slot_label : ℕ → List ℕ
slot_label slot = codes "slot " ++ decimal slot

-- SPD: 0 stops, 1 stops at once, 2 to 127 are rising speeds
abbrev pub spd_words : ℕ → List ℕ
spd_words spd =
    if spd == 0 then codes "stop" else
    (if spd == 1 then codes "emergency stop" else codes "speed " ++ decimal (spd - 1) ++ codes " of 126")

-- bit 5 of DIRF is 0 for forward, as in this station
abbrev pub is_forward : ℕ → Bool
is_forward dirf = dirf / 32 % 2 == 0

-- STAT1, bits 5 and 4
abbrev pub state_words : ℕ → List ℕ
state_words number =
    if number == 0 then codes "free" else (if number == 1 then codes "common" else (if number == 2 then codes "idle" else codes "in use"))

-- STAT1, bits 2 to 0
abbrev pub kind_words : ℕ → List ℕ
kind_words kind =
    if kind == 0 then codes ", 28 steps" else
    (if kind == 1 then codes ", 28 steps trinary" else
    (if kind == 2 then codes ", 14 steps" else
    (if kind == 3 then codes ", 128 steps" else
    (if kind == 4 then codes ", 28 steps, consists allowed" else
    (if kind == 7 then codes ", 128 steps, consists allowed" else codes ", unknown steps")))))

-- STAT1, bit 6: the slot is linked to another, and SPD is the number of that
abbrev pub is_linked : ℕ → Bool
is_linked stat = stat / 64 % 2 == 1

-- STAT1, bit 3, CONDN: others are linked to this slot; bit 6, CONUP: this slot is linked to another
abbrev pub consist_words : Bool → Bool → List ℕ
consist_words down up =
    if down then (if up then codes ", inside a consist" else codes ", top of a consist")
    else (if up then codes ", end of a consist" else [])

unfoldable pub stat_words : ℕ → List ℕ
stat_words stat = state_words (stat / 16 % 4) ++ kind_words (stat % 8) ++ consist_words (stat / 8 % 2 == 1) (is_linked stat)

unfoldable pub leader_words : ℕ → List ℕ
leader_words slot = codes "speed of slot " ++ decimal slot

-- the speed of a slot, or the slot whose speed counts where it is linked to one
unfoldable pub slot_speed : ℕ → ℕ → List ℕ
slot_speed stat spd = if is_linked stat then leader_words spd else spd_words spd

-- those of F0 to F8 that are on, if any are: DIRF has F0 to F4, and SND has F5 to F8, the lowest in
-- bit 0
unfoldable pub slot_functions : ℕ → ℕ → List ℕ
slot_functions dirf snd =
    if light_and_four dirf + snd % 16 == 0 then [] else codes "," ++ eight_on 0 (light_and_four dirf) ++ four_on 5 snd ++ codes " on"

-- TRK: bit 0 power, bit 1 is 0 while all are stopped, bit 3 programming track busy, bit 2 LocoNet
-- 1.1
abbrev pub track_state : ℕ → List ℕ
track_state trk = if trk % 2 == 0 then codes "; track off" else (if trk / 2 % 2 == 0 then codes "; track paused" else codes "; track on")

abbrev pub programming_words : ℕ → List ℕ
programming_words trk = if trk / 8 % 2 == 1 then codes ", programming" else []

abbrev pub version_words : ℕ → List ℕ
version_words trk = if trk / 4 % 2 == 1 then [] else codes ", no LocoNet 1.1"

unfoldable pub track_words : ℕ → List ℕ
track_words trk = track_state trk ++ programming_words trk ++ version_words trk

-- ID1 and ID2, seven bits each: the throttle of the slot, if it has sent its number
unfoldable pub throttle_words : ℕ → List ℕ
throttle_words number = if number == 0 then [] else codes "; throttle " ++ decimal number

unfoldable pub locomotive_words : ℕ → ℕ → List ℕ
locomotive_words high low = codes ": locomotive " ++ decimal (address_with high low)

-- the data of a slot of a locomotive
unfoldable pub slot_head : SlotBytes → List ℕ
slot_head f =
    slot_label f.slot ++ locomotive_words f.adr2 f.adr ++ codes ", " ++ stat_words f.stat ++ codes ", " ++ slot_speed f.stat f.spd

unfoldable pub slot_words : SlotBytes → List ℕ
slot_words f =
    slot_head f ++ direction_words (is_forward f.dirf) ++ slot_functions f.dirf f.snd ++ track_words f.trk ++ throttle_words (f.id2 * 128 + f.id1)

unfoldable pub dispatch_words : ℕ → List ℕ
dispatch_words slot = codes "dispatch slot " ++ decimal slot

unfoldable pub use_words : ℕ → List ℕ
use_words slot = codes "use slot " ++ decimal slot

unfoldable pub moved_words : ℕ → ℕ → List ℕ
moved_words src dest = codes "move slot " ++ decimal src ++ codes " to slot " ++ decimal dest

-- OPC_MOVE_SLOTS: from slot 0 the dispatched slot is taken, to slot 0 a slot is dispatched, and to
-- itself it is taken into use
abbrev pub move_words : ℕ → ℕ → List ℕ
move_words src dest =
    if src == 0 then codes "take the dispatched slot" else
    (if dest == 0 then dispatch_words src else (if src == dest then use_words src else moved_words src dest))

-- OPC_RQ_SL_DATA: some slots have special meanings
unfoldable pub read_words : ℕ → List ℕ
read_words slot =
    if slot == 123 then codes "read the fast clock" else
    (if slot == 124 then codes "read the programmer" else
    (if slot == 127 then codes "read the options of the command station" else codes "read slot " ++ decimal slot))

unfoldable pub sent_words : List ℕ → List ℕ
sent_words bytes = codes "send to the track: " ++ packet_words (with_check bytes)

-- OPC_IMM_PACKET: the packet has the first `count` bytes, and its check; the message has five
abbrev pub imm_words : ℕ → List ℕ → List ℕ
imm_words count bytes =
    if nat_le 2 count && nat_le count 5 then sent_words (take count bytes) else codes "send to the track: wrong length"

-- SPD, DIRF, SND and STAT1 of a slot
unfoldable pub speed_words : ℕ → ℕ → List ℕ
speed_words slot spd = slot_label slot ++ codes ": " ++ spd_words spd

unfoldable pub dirf_words : ℕ → ℕ → List ℕ
dirf_words slot dirf = slot_label slot ++ functions_words (codes ": F0 to F4:") 0 (light_and_four dirf) ++ direction_words (is_forward dirf)

unfoldable pub snd_words : ℕ → ℕ → List ℕ
snd_words slot snd = slot_label slot ++ functions_words (codes ": F5 to F8:") 5 (snd % 16)

unfoldable pub status_words : ℕ → ℕ → List ℕ
status_words slot stat = slot_label slot ++ codes ": " ++ stat_words stat

unfoldable pub acknowledged_words : ℕ → Bool → Bool → List ℕ
acknowledged_words number closed on = switch_words number closed on ++ codes ", to be acknowledged"

unfoldable pub taken_words : ℕ → ℕ → List ℕ
taken_words high low = codes "take locomotive " ++ decimal (address_with high low)

unfoldable pub written_words : SlotBytes → List ℕ
written_words f = codes "write " ++ slot_words f

-- whether the text below explains an operation; the others are explained by the table
abbrev pub is_reported : Op → Bool
is_reported (LongAck opc ack) = false
is_reported (SlotData f) = is_slot f.slot
is_reported (SlotWrite f) = is_slot f.slot
is_reported Other = false
is_reported op = true

-- the explanation of an operation; switches count from 1
abbrev pub op_words : Op → List ℕ
op_words PowerOff = codes "track power off"
op_words PowerOn = codes "track power on"
op_words ForceIdle = codes "stop all locomotives"
op_words (Speed slot spd) = speed_words slot spd
op_words (Dirf slot dirf) = dirf_words slot dirf
op_words (Snd slot snd) = snd_words slot snd
op_words (SwReq number closed on) = switch_words (number + 1) closed on
op_words (SwAck number closed on) = acknowledged_words (number + 1) closed on
op_words (SlotStat slot stat) = status_words slot stat
op_words (Move src dest) = move_words src dest
op_words (SlotRead slot) = read_words slot
op_words (LocoAddr high low) = taken_words high low
op_words (SlotData f) = slot_words f
op_words (SlotWrite f) = written_words f
op_words (Imm count im1 im2 im3 im4 im5) = imm_words count (im1 ∷ im2 ∷ im3 ∷ im4 ∷ im5 ∷ [])
op_words op = []

-- the tables of src/message_rows.rt, by the opcode
unfoldable pub standard_rows : ℕ → List Row
standard_rows opcode =
    if opcode == 0xB4 then table_of long_acks else
    (if opcode == 0xE7 then table_of slot_reads else
    (if opcode == 0xEF then table_of slot_writes else table_of messages))

-- the table of src/maker_rows.rt
unfoldable pub maker_rows : List Row
maker_rows = table_of maker_messages

-- Messages that makers added to the standard: A3 and D4, functions of the Intellibox; D0, reports of
-- Digitrax devices; E4, reports of detectors; E5 0F and ED 0F, variables of modules (LNCV).
abbrev pub is_of_maker : (opcode second : ℕ) → Bool
is_of_maker opcode second =
    if opcode == 0xA3 then true else
    (if opcode == 0xD0 then true else
    (if opcode == 0xD4 then true else
    (if opcode == 0xE4 then true else
    (if opcode == 0xE5 then second == 15 else
    (if opcode == 0xED then second == 15 else false)))))

abbrev pub table_rows : (opcode second : ℕ) → List Row
table_rows opcode second = if is_of_maker opcode second then maker_rows else standard_rows opcode

-- the explanation of a whole message by a table
abbrev pub table_words : List ℕ → List ℕ
table_words bytes = row_text (table_rows (slice_index bytes 0) (slice_index bytes 1)) bytes

-- the explanation of a whole message
abbrev pub whole_words : Op → List ℕ → List ℕ
whole_words op bytes = if is_reported op then op_words op else table_words bytes

-- LocoNet, message format: the check byte makes the exclusive or of all bytes FF
unfoldable pub wrong_check_words : List ℕ → List ℕ
wrong_check_words bytes =
    codes "wrong check byte, should be " ++ hex_pair (check_of (take (length bytes - 1) bytes))

-- why bytes are not a whole message
abbrev pub fault_words : List ℕ → List ℕ
fault_words [] = codes "no opcode"
fault_words (first ∷ rest) =
    if nat_lt first 128 then codes "no opcode" else
    (if are_data rest then (if has_form (first ∷ rest) then wrong_check_words (first ∷ rest) else codes "wrong length") else codes "data above 7F")

-- the explanation of the bytes of a message, the check last
abbrev pub message_words : List ℕ → List ℕ
message_words bytes = if is_whole bytes then whole_words (op_of bytes) bytes else fault_words bytes
