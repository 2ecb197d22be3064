-- The desk after an operation.
use Rattle.std.specs.Prelude.{ℕ, ◌==◌, if◌then◌else◌}
use Rattle.ln_ops.specs.Slot.{address_with}
use Rattle.ln_ops.specs.declared.op.Op.{Op}
use Rattle.ln_ops.specs.declared.op.Op.TheVariants.{PowerOff, PowerOn, ForceIdle, Speed, Dirf, Snd, SlotStat, Move, LocoAddr, SlotWrite, Imm}
use Rattle.slot_table.specs.Desk.{Desk}
use Rattle.slot_table.specs.declared.field.Field.TheVariants as field
use Rattle.slot_table.specs.Moves.{after_null_move, after_dispatch_put, after_dispatch_get, after_shift}
use Rattle.slot_table.specs.Writes.{after_take, after_field, after_write}
use Rattle.refresh_ring.specs.declared.pick.Power.{Power}
use Rattle.refresh_ring.specs.declared.pick.Power.TheVariants.{Off, Running, Paused}
use Rattle.station_core.specs.Immediate.{more_of, with_more}
use Rattle.station_core.specs.Powered.{PoweredDesk}

-- OPC_IDLE pauses a running track, and has no effect on another (own)
abbrev pub paused : Power → Power
paused Off = Off
paused Running = Paused
paused Paused = Paused

-- OPC_MOVE_SLOTS: dispatch get, null move, dispatch put and move, tried in this order
abbrev pub after_move : Desk → ℕ → ℕ → Desk
after_move desk src dest =
    if src == 0 then after_dispatch_get desk else
    (if src == dest then after_null_move desk src else
    (if dest == 0 then after_dispatch_put desk src else after_shift desk src dest))

-- the slots after an operation
abbrev pub desk_after : Desk → Op → Desk
desk_after desk (Speed slot spd) = after_field desk slot (field.Speed spd)
desk_after desk (Dirf slot dirf) = after_field desk slot (field.Dirf dirf)
desk_after desk (Snd slot snd) = after_field desk slot (field.Snd snd)
desk_after desk (SlotStat slot stat) = after_field desk slot (field.Stat stat)
desk_after desk (Move src dest) = after_move desk src dest
desk_after desk (LocoAddr high low) = after_take desk (address_with high low)
desk_after desk (SlotWrite fields) = after_write desk fields
desk_after desk (Imm count im1 im2 im3 im4 im5) = with_more desk (more_of desk count im1 im2 im3 im4 im5)
desk_after desk op = desk

-- the power after an operation
abbrev pub power_after : Power → Op → Power
power_after power PowerOff = Off
power_after power PowerOn = Running
power_after power ForceIdle = paused power
power_after power op = power

-- the desk with its power after an operation
abbrev pub after : PoweredDesk → Op → PoweredDesk
after powered op = record { power = power_after powered.power op; desk = desk_after powered.desk op }
