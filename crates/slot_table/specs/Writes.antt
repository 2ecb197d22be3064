-- What a throttle asks of a slot by OPC_LOCO_ADR, OPC_LOCO_SPD, OPC_LOCO_DIRF, OPC_LOCO_SND,
-- OPC_IMM_PACKET, OPC_SLOT_STAT1 and OPC_WR_SL_DATA. Each refusal is this project's own profile.
use Rattle.std.specs.Prelude.{ℕ, ◌≡◌, ◌==◌, ◌&&◌, ◌||◌, ◌%◌, Bool, true, false, not, if◌then◌else◌, Option, Some, None, Result, Ok, Err, OnOk, OnErr, is_ok}
use Rattle.ln_ops.specs.declared.row.State.TheVariants.{Idle}
use Rattle.ln_ops.specs.Fields.{SlotBytes}
use Rattle.ln_ops.specs.Slot.{is_held, is_slot, is_address, is_stat, state_of, kind_of, address_of}
use Rattle.slot_table.specs.declared.fault.SlotFault.{SlotFault}
use Rattle.slot_table.specs.declared.fault.SlotFault.TheVariants.{NoFree, Illegal, Held}
use Rattle.slot_table.specs.declared.field.Field.{Field}
use Rattle.slot_table.specs.declared.field.Field.TheVariants.{Speed, Dirf, Snd, More, Stat}
use Rattle.slot_table.specs.Entry.{Entry, IsSlot}
use Rattle.slot_table.specs.Desk.{Desk, IsDesk}
use Rattle.slot_table.specs.Reading.{row_of, slot_of, free_slot, is_placed}
use Rattle.slot_table.specs.Changes.{entered, cleared, changed, done_if}

-- ---- OPC_LOCO_ADR: an address is loaded

-- an address with no earlier request (own): idle, 128 steps, stopped, forward, functions off
abbrev pub new_entry : Entry
new_entry = record { state = Idle; kind = 3; spd = 0; dirf = 0; snd = 0; more = 0; ss2 = 0; id1 = 0; id2 = 0 }

abbrev pub take_answer_at : Option ℕ → Option ℕ → Result ℕ SlotFault
take_answer_at (Some n) free = Ok n
take_answer_at None (Some n) = Ok n
take_answer_at None None = Err NoFree

-- the slot that holds the address, or else the least free one
abbrev pub take_answer : Desk → ℕ → Result ℕ SlotFault
take_answer desk a = if is_address a then take_answer_at (slot_of desk a) (free_slot desk) else Err Illegal

abbrev pub take_at : Desk → ℕ → Option ℕ → Option ℕ → Desk
take_at desk a (Some n) free = desk
take_at desk a None (Some n) = entered desk n a new_entry
take_at desk a None None = desk

abbrev pub after_take : Desk → ℕ → Desk
after_take desk a = if is_address a then take_at desk a (slot_of desk a) (free_slot desk) else desk

-- ---- OPC_LOCO_SPD, OPC_LOCO_DIRF, OPC_LOCO_SND, F9 to F12 of OPC_IMM_PACKET, OPC_SLOT_STAT1: one field of a slot that
-- is not free

-- a STAT1 that a slot may not have is refused
abbrev pub is_legal_field : Field → Bool
is_legal_field (Stat stat) = is_stat stat
is_legal_field _ = true

abbrev pub can_field : Desk → ℕ → Field → Bool
can_field desk n field = is_legal_field field && is_placed desk n

-- the entry with the field written: DIRF keeps its low six bits, and SND its low four (own)
abbrev pub with_field : Field → Entry → Entry
with_field (Speed spd) e = record e { spd = spd }
with_field (Dirf dirf) e = record e { dirf = dirf % 64 }
with_field (Snd snd) e = record e { snd = snd % 16 }
with_field (More more) e = record e { more = more }
with_field (Stat stat) e = record e { state = state_of stat; kind = kind_of stat }

-- a slot that gets the state free is free
abbrev pub keeps_slot : Field → Bool
keeps_slot (Stat stat) = is_held (state_of stat)
keeps_slot _ = true

-- the state free clears the slot and a mark on it; any other field leaves the mark
abbrev pub after_field : Desk → ℕ → Field → Desk
after_field desk n field =
    if can_field desk n field then (if keeps_slot field then changed desk n (with_field field) else cleared desk n) else desk

-- What a call does that writes one field: it is done or refused, on a slot and as above; a refusal
-- changes nothing.
pub record WritesField (old : Desk) (n : ℕ) (field : Field) (answered : Result (Unit {0}) SlotFault) (new : Desk) : Type 0 where
  pub answer : answered ≡ done_if (can_field old n field)
  pub slot : OnOk answered (IsSlot n)
  pub after : new ≡ after_field old n field
  pub refused : OnErr answered (new ≡ old)
  pub desk : IsDesk new

-- ---- OPC_WR_SL_DATA: a whole slot

-- no byte says F9 to F12: the slot keeps them where it has this address already, and else they are
-- off (own)
abbrev pub kept_more : Desk → ℕ → ℕ → ℕ
kept_more desk n a = if (row_of desk n).address == a then (row_of desk n).more else 0

-- the entry that the bytes ask for, with these F9 to F12; TRK is ignored
abbrev pub entry_from : SlotBytes → ℕ → Entry
entry_from f more = record { state = state_of f.stat; kind = kind_of f.stat; spd = f.spd; dirf = f.dirf % 64; snd = f.snd % 16; more = more; ss2 = f.ss2; id1 = f.id1; id2 = f.id2 }

-- whether the address is in another slot
abbrev pub is_elsewhere : Option ℕ → ℕ → Bool
is_elsewhere None n = false
is_elsewhere (Some m) n = not (m == n)

-- a legal slot and STAT1, and an address that is legal and is in no other slot; with the state free
-- any address
abbrev pub write_answer : Desk → SlotBytes → Result (Unit {0}) SlotFault
write_answer desk f =
    if is_slot f.slot && is_stat f.stat && (not (is_held (state_of f.stat)) || is_address (address_of f)) then
    (if is_held (state_of f.stat) && is_elsewhere (slot_of desk (address_of f)) f.slot then Err Held else Ok tt)
    else Err Illegal

-- the entry that the slot gets
abbrev pub written_entry : Desk → SlotBytes → Entry
written_entry desk f = entry_from f (kept_more desk f.slot (address_of f))

-- the slot is cleared with a mark on it, and gets what the bytes ask for
abbrev pub after_write : Desk → SlotBytes → Desk
after_write desk f =
    if is_ok (write_answer desk f) then
    (let bare = cleared desk f.slot in if is_held (state_of f.stat) then entered bare f.slot (address_of f) (written_entry desk f) else bare)
    else desk
