-- The four cases of OPC_MOVE_SLOTS: null move, dispatch put, dispatch get, and the move of a slot.
-- The states that they set, what becomes of the mark, and each refusal are this project's own
-- profile.
use Rattle.std.specs.Prelude.{ℕ, ◌==◌, ◌&&◌, Bool, true, false, not, if◌then◌else◌, Option, Some, None, Result, Ok, Err}
use Rattle.std.specs.FinMap.{get, insert, remove}
use Rattle.ln_ops.specs.declared.row.State.{State}
use Rattle.ln_ops.specs.declared.row.State.TheVariants.{Free, Common, Idle, InUse}
use Rattle.ln_ops.specs.Slot.{is_slot}
use Rattle.slot_table.specs.declared.fault.SlotFault.{SlotFault}
use Rattle.slot_table.specs.declared.fault.SlotFault.TheVariants.{Illegal}
use Rattle.slot_table.specs.Desk.{Desk}
use Rattle.slot_table.specs.Reading.{row_of, is_placed}
use Rattle.slot_table.specs.Changes.{changed}

-- null move: the slot is in use, and stays the mark if it was
abbrev pub after_null_move : Desk → ℕ → Desk
after_null_move desk n = changed desk n (λ e. record e { state = InUse })

-- dispatch put: the slot is common, and is the one mark
abbrev pub after_dispatch_put : Desk → ℕ → Desk
after_dispatch_put desk n = let put = changed desk n (λ e. record e { state = Common }) in if is_placed desk n then record put { mark = Some n } else desk

-- dispatch get: the slot that is the mark
abbrev pub dispatch_get_answer : Option ℕ → Result ℕ SlotFault
dispatch_get_answer None = Err Illegal
dispatch_get_answer (Some n) = Ok n

-- dispatch get: it is in use, and there is no mark
abbrev pub dispatch_get_at : Desk → Option ℕ → Desk
dispatch_get_at desk None = desk
dispatch_get_at desk (Some n) = let got = after_null_move desk n in record got { mark = None }

abbrev pub after_dispatch_get : Desk → Desk
after_dispatch_get desk = dispatch_get_at desk desk.mark

-- common or idle
abbrev pub may_move : State → Bool
may_move Free = false
may_move Common = true
may_move Idle = true
may_move InUse = false

-- a move goes from a common or idle slot to a free one
abbrev pub can_shift : Desk → ℕ → ℕ → Bool
can_shift desk src dest = may_move (row_of desk src).state && is_slot dest && not (is_placed desk dest)

abbrev pub moved_mark : Option ℕ → ℕ → ℕ → Option ℕ
moved_mark None src dest = None
moved_mark (Some m) src dest = if m == src then Some dest else Some m

abbrev pub move_place : Desk → ℕ → ℕ → Option ℕ → Desk
move_place desk src dest None = desk
move_place desk src dest (Some a) = record desk { place = insert (remove desk.place src) dest a; mark = moved_mark desk.mark src dest }

-- the address moves, with its mark; what was asked for it stays
abbrev pub after_shift : Desk → ℕ → ℕ → Desk
after_shift desk src dest = if can_shift desk src dest then move_place desk src dest (get desk.place src) else desk
