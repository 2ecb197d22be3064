-- Why the arguments of `station` are not an order.
use Rattle.std.specs.Prelude.{List, [], ◌∷◌}
use Rattle.clap.specs.Kinds.{Kinds}
use Rattle.clap.specs.Words.{Text, fault_of}
use Rattle.command_line.specs.declared.fault.OrderFault.{OrderFault}
use Rattle.command_line.specs.Fault.{IsFaultOf}
use Rattle.station_orders.specs.Order.{IsOrderOf}
use Rattle.station_orders.specs.StationLine.{station_app}

-- the errors for which clap rejects the arguments; an empty list is not passed to it
abbrev pub refusals : List Text → Kinds
refusals [] = []
refusals (word ∷ words) = fault_of station_app (word ∷ words)

abbrev pub IsOrderFault : List Text → OrderFault → Type 0
IsOrderFault words fault = IsFaultOf (refusals words) (IsOrderOf words) fault
