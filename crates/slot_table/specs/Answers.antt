-- What calls on slots ensure.
use Rattle.std.specs.Prelude.{ℕ, ◌≡◌, Result, IfOk, OnErr}
use Rattle.slot_table.specs.declared.fault.SlotFault.{SlotFault}
use Rattle.slot_table.specs.Entry.{IsSlot}
use Rattle.slot_table.specs.Desk.{Desk, IsDesk}

-- a call that gives a slot: its answer and the desk after it, which is as before where it is refused
pub record GivesSlot (wanted : Result ℕ SlotFault) (made before now : Desk) (result : Result ℕ SlotFault) : Type 0 where
  pub answer : result ≡ wanted
  pub slot : IfOk result IsSlot
  pub after : now ≡ made
  pub refused : OnErr result (now ≡ before)
  pub desk : IsDesk now
