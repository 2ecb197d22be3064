-- The desk with its power.
use Rattle.slot_table.specs.Desk.{Desk, IsDesk}
use Rattle.refresh_ring.specs.declared.pick.Power.{Power}

-- the power of the track, and the slots
pub record PoweredDesk : Type 0 where
  pub power : Power
  pub desk : Desk

-- no address is in two slots, and each address in a slot has its entry
abbrev pub HasDesk : PoweredDesk → Type 0
HasDesk powered = IsDesk powered.desk
