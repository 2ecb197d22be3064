-- The status of arguments that are not an order.
use Rattle.std.proofs.Common.{◌≡◌, ℕ, Bool, false, List, Option, inl, inr}
use Rattle.clap.specs.Values.{kind_of}
use Rattle.clap.specs.Words.{Text}
use Rattle.command_line.specs.declared.fault.OrderFault.{OrderFault}
use Rattle.command_line.specs.declared.fault.OrderFault.TheVariants.{Usage, NoMemory}
use Rattle.command_line.specs.Fault.{status_of}
use Rattle.station_orders.specs.Fault.{IsOrderFault}
use Rattle.station.specs.Ends.{EndsAs}

pub no_order : (words : List Text) (old_input new_input : Option (List ℕ)) (failed write_failed : Bool) (fault : OrderFault) (status : ℕ) → status ≡ status_of fault → write_failed ≡ false
    → IsOrderFault words fault → EndsAs words old_input new_input failed write_failed status
no_order words old_input new_input failed write_failed NoMemory status is written refused = inr (inl (is, written))
no_order words old_input new_input failed write_failed (Usage error) status is written refused = elim refused [
  | inl among ↦ inl (is, inl (kind_of error, among), written)
  | inr none ↦ inl (is, inr none.0, written)
]
