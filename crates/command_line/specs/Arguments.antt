-- Why a program has no arguments.
use Rattle.std.specs.Prelude.{◌≡◌, ◌⊎◌}
use Rattle.command_line.specs.declared.fault.OrderFault.{OrderFault}
use Rattle.command_line.specs.declared.fault.OrderFault.TheVariants.{NoMemory}

-- out of memory, or the text for an argument that is not UTF-8
abbrev pub IsArgumentFault : (Makes : OrderFault → Type 0) → OrderFault → Type 0
IsArgumentFault Makes fault = (fault ≡ NoMemory) ⊎ Makes fault
