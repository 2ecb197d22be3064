-- The steps that the operations on slots are made of.
use Rattle.std.specs.Prelude.{ℕ, ◌==◌, Bool, if◌then◌else◌, Option, Some, None, Result, Ok, Err}
use Rattle.std.specs.Ordering.{nat_cmp}
use Rattle.std.specs.FinMap.{FinMap, get, insert, remove}
use Rattle.slot_table.specs.declared.fault.SlotFault.{SlotFault}
use Rattle.slot_table.specs.declared.fault.SlotFault.TheVariants.{Illegal}
use Rattle.slot_table.specs.Entry.{Entry}
use Rattle.slot_table.specs.Desk.{Desk}

-- what a call answers that only says whether it was done
abbrev pub done_if : Bool → Result (Unit {0}) SlotFault
done_if b = if b then Ok tt else Err Illegal

-- what a call answers that gives a slot
abbrev pub slot_if : Bool → ℕ → Result ℕ SlotFault
slot_if b n = if b then Ok n else Err Illegal

-- the address gets this slot and this entry
abbrev pub entered : Desk → ℕ → ℕ → Entry → Desk
entered desk n a e = record desk { place = insert desk.place n a; asked = insert desk.asked a e }

-- without the entry of the address, if there is one
abbrev pub without : FinMap nat_cmp Entry → Option ℕ → FinMap nat_cmp Entry
without asked None = asked
without asked (Some a) = remove asked a

-- the slot loses its place and its entry
abbrev pub emptied : Desk → ℕ → Desk
emptied desk n = record desk { place = remove desk.place n; asked = without desk.asked (get desk.place n) }

-- the slot is no longer the mark
abbrev pub unmarked : Option ℕ → ℕ → Option ℕ
unmarked None n = None
unmarked (Some m) n = if m == n then None else Some m

-- the slot is free: its place, its entry and a mark on it are gone
abbrev pub cleared : Desk → ℕ → Desk
cleared desk n = let rest = emptied desk n in record rest { mark = unmarked desk.mark n }

abbrev pub change_entry : Desk → ℕ → (Entry → Entry) → Option Entry → Desk
change_entry desk a f None = desk
change_entry desk a f (Some e) = record desk { asked = insert desk.asked a (f e) }

abbrev pub change_at : Desk → (Entry → Entry) → Option ℕ → Desk
change_at desk f None = desk
change_at desk f (Some a) = change_entry desk a f (get desk.asked a)

-- the entry of the slot's address is changed; nothing is, where the slot is free
abbrev pub changed : Desk → ℕ → (Entry → Entry) → Desk
changed desk n f = change_at desk f (get desk.place n)
