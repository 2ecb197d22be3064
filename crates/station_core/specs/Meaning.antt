-- The definitions of this crate, said another way: bit by bit, by the packets that differ, and by
-- what the bytes spell.
use Rattle.std.specs.Prelude.{ℕ, ◌≡◌, ◌≢◌, ◌⊎◌, true, false, List, [], ◌∷◌, map, Some, Ok}
use Rattle.std.specs.Int.{bit_at}
use Rattle.std.specs.List.{range_with_len}
use Rattle.ln_ops.specs.Fields.{SlotBytes}
use Rattle.ln_ops.specs.declared.op.Op.{Op}
use Rattle.ln_ops.specs.declared.op.Op.TheVariants.{SlotStat, Move, SlotWrite}
use Rattle.dcc_packet.specs.declared.instr.Instr.TheVariants.{GroupThree}
use Rattle.dcc_packet.specs.Form.{with_check}
use Rattle.dcc_packet.specs.Spells.{Spells}
use Rattle.slot_table.specs.Desk.{Desk}
use Rattle.slot_table.specs.declared.field.Field.TheVariants.{Stat}
use Rattle.slot_table.specs.Entry.{Entry}
use Rattle.slot_table.specs.Reading.{slot_of}
use Rattle.slot_table.specs.Writes.{can_field, write_answer}
use Rattle.refresh_ring.specs.Jobs.{sends_ahead}
use Rattle.refresh_ring.specs.declared.kind.Kind.{Kind}
use Rattle.station_core.specs.After.{desk_after}
use Rattle.station_core.specs.Answer.{move_answer}
use Rattle.station_core.specs.Entries.{functions_asked}
use Rattle.station_core.specs.Station.{after_op}
use Rattle.station_core.specs.Packets.{address_sent, place_packet}
use Rattle.station_core.specs.Refreshed.{is_refreshed}
use Rattle.station_core.specs.Seen.{Seen}

-- the bits of F0 to F12, in order
abbrev pub asked_bits : Entry → List ℕ
asked_bits e = map (bit_at (functions_asked e)) (range_with_len 0 13)

-- LocoNet, slot data: F0 is bit 4 of DIRF, F1 to F4 its bits 0 to 3, F5 to F8 bits 0 to 3 of SND;
-- F9 to F12 are the four bits that OPC_IMM_PACKET set
abbrev pub bits_of_slot : Entry → List ℕ
bits_of_slot e =
    bit_at e.dirf 4 ∷ bit_at e.dirf 0 ∷ bit_at e.dirf 1 ∷ bit_at e.dirf 2 ∷ bit_at e.dirf 3
    ∷ bit_at e.snd 0 ∷ bit_at e.snd 1 ∷ bit_at e.snd 2 ∷ bit_at e.snd 3
    ∷ bit_at e.more 0 ∷ bit_at e.more 1 ∷ bit_at e.more 2 ∷ bit_at e.more 3 ∷ []

-- a place waits after a message, or its slot is not refreshed then
abbrev pub WaitsAfter : Seen → Op → ℕ → Kind → Type 0
WaitsAfter seen op slot kind =
    is_refreshed (desk_after seen.powered.desk op) slot ≡ true → (ahead : ℕ) × (sends_ahead slot kind (after_op seen op).jobs ≡ Some ahead)

-- a message changes the packet of a place, or its slot was not refreshed before
abbrev pub IsNew : Seen → Op → ℕ → Kind → Type 0
IsNew seen op slot kind =
    (place_packet (desk_after seen.powered.desk op) slot kind ≢ place_packet seen.powered.desk slot kind) ⊎ (is_refreshed seen.powered.desk slot ≡ false)

-- the messages that leave a whole slot: OPC_SLOT_STAT1, OPC_MOVE_SLOTS and OPC_WR_SL_DATA, where
-- they are accepted
abbrev pub LeavesSlot : Desk → Op → ℕ → Type 0
LeavesSlot desk op slot =
    ((stat : ℕ) × (op ≡ SlotStat slot stat) × (can_field desk slot (Stat stat) ≡ true))
    ⊎ (((src dest : ℕ) × (op ≡ Move src dest) × (move_answer desk src dest ≡ Ok slot))
    ⊎ ((fields : SlotBytes) × (op ≡ SlotWrite fields) × (slot ≡ fields.slot) × (write_answer desk fields ≡ Ok tt)))

-- with their check byte the bytes are a packet of function group three, to the address that is in
-- the slot
abbrev pub AskMore : Desk → List ℕ → ℕ → ℕ → Type 0
AskMore desk bytes slot bits =
    (address : ℕ) × (slot_of desk address ≡ Some slot) × Spells (with_check bytes) (GroupThree (address_sent address) bits)
