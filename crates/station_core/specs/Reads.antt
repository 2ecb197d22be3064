-- What OPC_RQ_SL_DATA is answered for a slot after each message, byte by byte (LocoNet, slot data).
use Rattle.std.specs.Prelude.{ℕ, ◌≡◌, ◌≢◌, ◌<◌, ◌+◌, ◌*◌, ◌%◌, ◌==◌, Bool, true, false, List, [], ◌∷◌, Option, Some, None, slice_index, slice_set}
use Rattle.ln_ops.specs.Fields.{SlotBytes, AreData}
use Rattle.ln_ops.specs.Reply.{body_of}
use Rattle.ln_ops.specs.Slot.{is_held, is_stat, state_of}
use Rattle.ln_ops.specs.declared.op.Op.{Op}
use Rattle.ln_ops.specs.declared.op.Op.TheVariants.{PowerOff, PowerOn, ForceIdle, Speed, Dirf, Snd, SlotStat, Move, SlotRead, LocoAddr, SlotWrite}
use Rattle.ln_ops.specs.declared.reply.Reply.{Reply}
use Rattle.ln_ops.specs.declared.reply.Reply.TheVariants.{SlotData, LongAck}
use Rattle.station_core.specs.After.{after}
use Rattle.station_core.specs.Answer.{answer}
use Rattle.station_core.specs.Powered.{PoweredDesk}

-- the bytes of an answer without their check, none where nothing is answered
abbrev pub bytes_of_answer : Option Reply → List ℕ
bytes_of_answer None = []
bytes_of_answer (Some reply) = body_of reply

-- what OPC_RQ_SL_DATA is answered for a slot: E7 0E SLOT STAT1 ADR SPD DIRF TRK SS2 ADR2 SND ID1
-- ID2
abbrev pub read_of : PoweredDesk → ℕ → List ℕ
read_of powered slot = bytes_of_answer (answer powered (SlotRead slot) 0)

-- the position of a byte in it
abbrev pub slot_at : ℕ
slot_at = 2

abbrev pub stat_at : ℕ
stat_at = 3

abbrev pub spd_at : ℕ
spd_at = 5

abbrev pub dirf_at : ℕ
dirf_at = 6

abbrev pub trk_at : ℕ
trk_at = 7

abbrev pub snd_at : ℕ
snd_at = 10

abbrev pub byte_read : PoweredDesk → (slot at : ℕ) → ℕ
byte_read powered slot at = slice_index (read_of powered slot) at

-- STAT1 says that the slot is not free
abbrev pub is_used : PoweredDesk → ℕ → Bool
is_used powered slot = is_held (state_of (byte_read powered slot stat_at))

-- the slot reads as before
abbrev pub PreservesRead : PoweredDesk → Op → ℕ → Type 0
PreservesRead powered op slot = read_of (after powered op) slot ≡ read_of powered slot

-- the slot reads as before but for one byte, which is this one now
abbrev pub Writes : PoweredDesk → Op → (slot at byte : ℕ) → Type 0
Writes powered op slot at byte = read_of (after powered op) slot ≡ slice_set (read_of powered slot) at byte

-- STAT1 with these bits 5 and 4
abbrev pub stat_in_state : PoweredDesk → (slot state : ℕ) → ℕ
stat_in_state powered slot state = 16 * state + byte_read powered slot stat_at % 16

-- the slot reads as free: zeros but for its number and TRK
abbrev pub Frees : PoweredDesk → Op → ℕ → Type 0
Frees powered op slot = read_of (after powered op) slot ≡ 0xE7 ∷ 0x0E ∷ slot ∷ 0 ∷ 0 ∷ 0 ∷ 0 ∷ byte_read powered slot trk_at ∷ 0 ∷ 0 ∷ 0 ∷ 0 ∷ 0 ∷ []

abbrev pub is_data_of : Option Reply → ℕ → Bool
is_data_of (Some (SlotData fields)) slot = fields.slot == slot
is_data_of _ slot = false

-- the message is answered with the data of this slot
abbrev pub gives : PoweredDesk → Op → ℕ → Bool
gives powered op slot = is_data_of (answer powered op 0) slot

-- the message writes one byte of a slot
abbrev pub is_field : Op → Bool
is_field (Speed n spd) = true
is_field (Dirf n dirf) = true
is_field (Snd n snd) = true
is_field (SlotStat n stat) = true
is_field _ = false

-- the message is for this slot, or goes from it; TRK is in each
abbrev pub names : Op → ℕ → Bool
names PowerOff slot = true
names PowerOn slot = true
names ForceIdle slot = true
names (Speed n spd) slot = n == slot
names (Dirf n dirf) slot = n == slot
names (Snd n snd) slot = n == slot
names (SlotStat n stat) slot = n == slot
names (Move src dest) slot = src == slot
names (SlotWrite fields) slot = fields.slot == slot
names _ slot = false

-- After each message a slot reads as before, but for the bytes that the message writes. Of DIRF six
-- bits are kept, and of SND four (own).
pub record WritesItsBytes (powered : PoweredDesk) (slot : ℕ) : Type 0 where
  pub speed : (spd : ℕ) → is_used powered slot ≡ true → Writes powered (Speed slot spd) slot spd_at spd
  pub dirf : (dirf : ℕ) → is_used powered slot ≡ true → Writes powered (Dirf slot dirf) slot dirf_at (dirf % 64)
  pub snd : (snd : ℕ) → is_used powered slot ≡ true → Writes powered (Snd slot snd) slot snd_at (snd % 16)
  pub stat : (stat : ℕ) → is_used powered slot ≡ true → is_stat stat ≡ true → is_held (state_of stat) ≡ true → Writes powered (SlotStat slot stat) slot stat_at stat
  pub stat_free : (stat : ℕ) → is_used powered slot ≡ true → is_stat stat ≡ true → is_held (state_of stat) ≡ false → Frees powered (SlotStat slot stat) slot
  pub stat_illegal : (stat : ℕ) → is_stat stat ≡ false → PreservesRead powered (SlotStat slot stat) slot
  pub unused : (op : Op) → is_field op ≡ true → is_used powered slot ≡ false → PreservesRead powered op slot
  -- OPC_MOVE_SLOTS: a slot that is got or moved to itself is in use, one that is put is common
  pub get : (dest : ℕ) → gives powered (Move 0 dest) slot ≡ true → Writes powered (Move 0 dest) slot stat_at (stat_in_state powered slot 3)
  pub null_move : gives powered (Move slot slot) slot ≡ true → Writes powered (Move slot slot) slot stat_at (stat_in_state powered slot 3)
  pub put : gives powered (Move slot 0) slot ≡ true → Writes powered (Move slot 0) slot stat_at (stat_in_state powered slot 1)
  pub move_to : (src : ℕ) → src ≢ 0 → src ≢ slot → gives powered (Move src slot) slot ≡ true → read_of (after powered (Move src slot)) slot ≡ slice_set (read_of powered src) slot_at slot
  pub move_from : (dest : ℕ) → dest ≢ 0 → slot ≢ dest → gives powered (Move slot dest) dest ≡ true → Frees powered (Move slot dest) slot
  -- OPC_LOCO_ADR: an address that was in no slot is idle, in 128 steps, stopped, forward, its
  -- functions off (own)
  pub load : (high low : ℕ) → low < 128 → gives powered (LocoAddr high low) slot ≡ true → is_used powered slot ≡ false
      → read_of (after powered (LocoAddr high low)) slot ≡ 0xE7 ∷ 0x0E ∷ slot ∷ 0x23 ∷ low ∷ 0 ∷ 0 ∷ byte_read powered slot trk_at ∷ 0 ∷ high ∷ 0 ∷ 0 ∷ 0 ∷ []
  pub load_held : (high low : ℕ) → gives powered (LocoAddr high low) slot ≡ true → is_used powered slot ≡ true → PreservesRead powered (LocoAddr high low) slot
  -- OPC_WR_SL_DATA: the bytes that it gives, but for TRK
  pub write : (f : SlotBytes) → AreData f → f.slot ≡ slot → answer powered (SlotWrite f) 0 ≡ Some (LongAck 0x6F 0x7F) → is_held (state_of f.stat) ≡ true
      → read_of (after powered (SlotWrite f)) slot ≡ 0xE7 ∷ 0x0E ∷ slot ∷ f.stat ∷ f.adr ∷ f.spd ∷ f.dirf % 64 ∷ byte_read powered slot trk_at ∷ f.ss2 ∷ f.adr2 ∷ f.snd % 16 ∷ f.id1 ∷ f.id2 ∷ []
  pub write_free : (f : SlotBytes) → f.slot ≡ slot → answer powered (SlotWrite f) 0 ≡ Some (LongAck 0x6F 0x7F) → is_held (state_of f.stat) ≡ false → Frees powered (SlotWrite f) slot
  -- TRK: power off is 6, on 7, and paused 5; OPC_IDLE pauses a running track alone (own)
  pub off : Writes powered PowerOff slot trk_at 6
  pub on : Writes powered PowerOn slot trk_at 7
  pub idle : byte_read powered slot trk_at ≡ 7 → Writes powered ForceIdle slot trk_at 5
  pub idle_else : byte_read powered slot trk_at ≢ 7 → PreservesRead powered ForceIdle slot
  -- what is refused changes nothing, nor does a request of data, nor a message for another slot
  pub refused : (op : Op) (opc waiting : ℕ) → answer powered op waiting ≡ Some (LongAck opc 0) → PreservesRead powered op slot
  pub read : (n : ℕ) → PreservesRead powered (SlotRead n) slot
  pub others : (op : Op) → names op slot ≡ false → gives powered op slot ≡ false → PreservesRead powered op slot
