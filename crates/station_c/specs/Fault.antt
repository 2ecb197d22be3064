-- The first fault of a roster, for C.
use Rattle.std.specs.Prelude.{ℕ, ◌≡◌, List, Result, Ok, Err}
use Rattle.roster.specs.declared.fault.RosterFaultKind.{RosterFaultKind}
use Rattle.roster.specs.declared.fault.RosterFaultKind.TheVariants.{NotToml, BadShape, TooMany, BadName, BadCv, BadModule, Empty, NoMemory, BadCvList}
use Rattle.roster.specs.declared.fault.RosterFault.{RosterFault}
use Rattle.roster.specs.Entry.{Entry}

-- its number, as `station` prints it
abbrev pub number_of : RosterFaultKind → ℕ
number_of NotToml = 1
number_of BadShape = 2
number_of TooMany = 3
number_of BadName = 4
number_of BadCv = 5
number_of BadModule = 6
number_of Empty = 7
number_of NoMemory = 8
number_of BadCvList = 9

-- 0 for a roster without a fault, 2 for one with a fault
abbrev pub verdict : Result (List Entry) RosterFault → ℕ
verdict (Ok entries) = 0
verdict (Err fault) = 2

-- the number of the fault, and of the decoder at fault
abbrev pub IsFault : Result (List Entry) RosterFault → (number node : ℕ) → Type 0
IsFault (Ok entries) number node = ⊥
IsFault (Err fault) number node = (number ≡ number_of fault.why) × (node ≡ fault.node)
