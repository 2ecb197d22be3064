-- The texts of lines of messages.
use Rattle.std.specs.Prelude.{ℕ, Bool, true, false, if◌then◌else◌, List, [], ◌∷◌, ◌++◌, codes}
use Rattle.std.specs.Fmt.{decimal}
use Rattle.ln_ops.specs.Fields.{SlotBytes}
use Rattle.ln_ops.specs.Message.{op_of}
use Rattle.ln_ops.specs.Slot.{address_with, address_of}
use Rattle.ln_ops.specs.declared.op.Op.{Op}
use Rattle.ln_ops.specs.declared.op.Op.TheVariants.{PowerOff, PowerOn, ForceIdle, Speed, Dirf, Snd, SwReq, SwAck, LongAck, SlotStat, Move, SlotRead, LocoAddr, SlotData, SlotWrite, Imm, Other}
use Rattle.text.specs.Hex.{hex_words}

-- two labels, each with a number after it
abbrev pub pair_text : List ℕ → ℕ → List ℕ → ℕ → List ℕ
pair_text label n other m = label ++ decimal n ++ other ++ decimal m

-- the number of a switch, where it is to go, and whether its output is switched on or off
abbrev pub switch_text : ℕ → Bool → Bool → List ℕ
switch_text number closed on =
    decimal number ++ (if closed then codes " closed" else codes " thrown") ++ (if on then codes " on" else codes " off")

-- the bytes of a slot, those of the address as one number
abbrev pub fields_text : SlotBytes → List ℕ
fields_text f =
    pair_text (codes "slot ") f.slot (codes " stat ") f.stat ++ codes " address " ++ decimal (address_of f)
    ++ pair_text (codes " spd ") f.spd (codes " dirf ") f.dirf ++ pair_text (codes " trk ") f.trk (codes " ss2 ") f.ss2
    ++ codes " snd " ++ decimal f.snd ++ pair_text (codes " ids ") f.id1 (codes " ") f.id2

-- the number of packet bytes that count, and all five that the message has
abbrev pub packet_text : ℕ → List ℕ → List ℕ
packet_text count bytes = codes "imm " ++ decimal count ++ hex_words bytes

-- an operation written as two labels, each with a number after it
abbrev pub is_pair : Op → Bool
is_pair (Speed slot spd) = true
is_pair (Dirf slot dirf) = true
is_pair (Snd slot snd) = true
is_pair (LongAck opc ack) = true
is_pair (SlotStat slot stat) = true
is_pair (Move src dest) = true
is_pair op = false

-- the text of an operation
abbrev pub op_text : Op → List ℕ
op_text PowerOff = codes "power off"
op_text PowerOn = codes "power on"
op_text ForceIdle = codes "force idle"
op_text (Speed slot spd) = pair_text (codes "speed slot ") slot (codes " spd ") spd
op_text (Dirf slot dirf) = pair_text (codes "dirf slot ") slot (codes " dirf ") dirf
op_text (Snd slot snd) = pair_text (codes "snd slot ") slot (codes " snd ") snd
op_text (SwReq number closed on) = codes "switch " ++ switch_text number closed on
op_text (SwAck number closed on) = codes "switch-ack " ++ switch_text number closed on
op_text (LongAck opc ack) = pair_text (codes "ack opc ") opc (codes " code ") ack
op_text (SlotStat slot stat) = pair_text (codes "status slot ") slot (codes " stat ") stat
op_text (Move src dest) = pair_text (codes "move ") src (codes " ") dest
op_text (SlotRead slot) = codes "read slot " ++ decimal slot
op_text (LocoAddr high low) = codes "address " ++ decimal (address_with high low)
op_text (SlotData fields) = codes "slot-data " ++ fields_text fields
op_text (SlotWrite fields) = codes "slot-write " ++ fields_text fields
op_text (Imm count im1 im2 im3 im4 im5) = packet_text count (im1 ∷ im2 ∷ im3 ∷ im4 ∷ im5 ∷ [])
op_text Other = codes "other"

-- `msg`, the bytes of a message, and its operation
abbrev pub message_text : List ℕ → List ℕ
message_text message = codes "msg" ++ hex_words message ++ codes " " ++ op_text (op_of message)
