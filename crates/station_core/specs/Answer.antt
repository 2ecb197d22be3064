-- What a station answers to an operation. Each refusal, and the code of each long acknowledge, is
-- this project's own.
use Rattle.std.specs.Prelude.{ℕ, ◌==◌, ◌/◌, ◌%◌, ◌&&◌, Bool, nat_le, nat_lt, if◌then◌else◌, Option, Some, None, Result, Ok, Err}
use Rattle.refresh_ring.specs.Jobs.{most_requests}
use Rattle.dcc_packet.specs.Sent.{last_switch}
use Rattle.ln_ops.specs.Fields.{SlotBytes}
use Rattle.ln_ops.specs.Slot.{address_with, is_slot, stat_with}
use Rattle.ln_ops.specs.declared.op.Op.{Op}
use Rattle.ln_ops.specs.declared.op.Op.TheVariants.{SwReq, SwAck, Move, SlotRead, LocoAddr, SlotWrite, Imm}
use Rattle.ln_ops.specs.declared.reply.Reply.{Reply}
use Rattle.ln_ops.specs.declared.reply.Reply.TheVariants as reply
use Rattle.ln_ops.specs.declared.row.Row.{Row}
use Rattle.slot_table.specs.Desk.{Desk}
use Rattle.slot_table.specs.Changes.{slot_if}
use Rattle.slot_table.specs.Moves.{dispatch_get_answer, can_shift}
use Rattle.slot_table.specs.Reading.{row_of, is_placed}
use Rattle.slot_table.specs.Writes.{take_answer, write_answer}
use Rattle.slot_table.specs.declared.fault.SlotFault.{SlotFault}
use Rattle.refresh_ring.specs.declared.pick.Power.{Power}
use Rattle.refresh_ring.specs.declared.pick.Power.TheVariants.{Off, Running, Paused}
use Rattle.station_core.specs.Immediate.{more_of}
use Rattle.station_core.specs.declared.immediate.More.{More}
use Rattle.station_core.specs.Powered.{PoweredDesk}
use Rattle.station_core.specs.After.{after}

-- TRK: bit 0 power on, bit 1 is 0 while paused, bit 2 LocoNet 1.1
abbrev pub track_status : Power → ℕ
track_status Off = 6
track_status Running = 7
track_status Paused = 5

-- the slot data of a row
abbrev pub slot_bytes : Power → ℕ → Row → SlotBytes
slot_bytes power n row = record {
  slot = n;
  stat = stat_with row.state row.kind;
  adr = row.address % 128;
  spd = row.spd;
  dirf = row.dirf;
  trk = track_status power;
  ss2 = row.ss2;
  adr2 = row.address / 128;
  snd = row.snd;
  id1 = row.id1;
  id2 = row.id2;
}

-- the slot data of a slot
abbrev pub slot_data : PoweredDesk → ℕ → Reply
slot_data powered n = reply.SlotData (slot_bytes powered.power n (row_of powered.desk n))

-- the slot data of the slot that an operation gives, or a refusal of the operation with this opcode
abbrev pub slot_or_refusal : ℕ → PoweredDesk → Result ℕ SlotFault → Reply
slot_or_refusal opc powered (Ok n) = slot_data powered n
slot_or_refusal opc powered (Err fault) = reply.LongAck opc 0

-- whether a whole-slot write was taken
abbrev pub write_reply : Result (Unit {0}) SlotFault → Reply
write_reply (Ok done) = reply.LongAck 0x6F 0x7F
write_reply (Err fault) = reply.LongAck 0x6F 0

-- whether F9 to F12 were set
abbrev pub more_reply : Option More → Reply
more_reply (Some more) = reply.LongAck 0x7D 0x7F
more_reply None = reply.LongAck 0x7D 0

-- the slot that OPC_MOVE_SLOTS gives
abbrev pub move_answer : Desk → ℕ → ℕ → Result ℕ SlotFault
move_answer desk src dest =
    if src == 0 then dispatch_get_answer desk.mark else
    (if src == dest then slot_if (is_placed desk src) src else
    (if dest == 0 then slot_if (is_placed desk src) src else slot_if (can_shift desk src dest) dest))

-- switches that can be asked for (own): those that a packet can name, where fewer requests wait
-- than have room
abbrev pub is_taken : ℕ → ℕ → Bool
is_taken number waiting = nat_le number last_switch && nat_lt waiting most_requests

-- the answer to an operation, by the number of switch requests that wait
abbrev pub answer : PoweredDesk → Op → ℕ → Option Reply
answer powered (SwReq number closed on) waiting = if is_taken number waiting then None else Some (reply.LongAck 0x30 0)
answer powered (SwAck number closed on) waiting = Some (reply.LongAck 0x3D (if is_taken number waiting then 0x7F else 0))
answer powered (Move src dest) waiting = Some (slot_or_refusal 0x3A (after powered (Move src dest)) (move_answer powered.desk src dest))
answer powered (SlotRead slot) waiting = Some (if is_slot slot then slot_data powered slot else reply.LongAck 0x3B 0)
answer powered (LocoAddr high low) waiting = Some (slot_or_refusal 0x3F (after powered (LocoAddr high low)) (take_answer powered.desk (address_with high low)))
answer powered (SlotWrite fields) waiting = Some (write_reply (write_answer powered.desk fields))
answer powered (Imm count im1 im2 im3 im4 im5) waiting = Some (more_reply (more_of powered.desk count im1 im2 im3 im4 im5))
answer powered op waiting = None
