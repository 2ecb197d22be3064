-- Which slots of a desk are refreshed.
use Rattle.std.specs.Prelude.{ℕ, Bool, true, false}
use Rattle.ln_ops.specs.declared.row.State.{State}
use Rattle.ln_ops.specs.declared.row.State.TheVariants.{Common, InUse}
use Rattle.slot_table.specs.Desk.{Desk}
use Rattle.slot_table.specs.Reading.{row_of}

-- LocoNet, STAT1: a common slot and one in use are refreshed
abbrev pub is_driven : State → Bool
is_driven Common = true
is_driven InUse = true
is_driven other = false

abbrev pub is_refreshed : Desk → ℕ → Bool
is_refreshed desk n = is_driven (row_of desk n).state
