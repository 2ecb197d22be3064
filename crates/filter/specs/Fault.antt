-- The faults of a filter that runs on its input.
use Rattle.std.specs.Prelude.{ℕ, Bool, true, false, Result, Ok, Err}
use Rattle.input_text.specs.declared.input.ReadFault.{ReadFault}
use Rattle.input_text.specs.Fault.{either}
use Rattle.filter.specs.declared.fault.FilterFault.{FilterFault}
use Rattle.filter.specs.declared.fault.FilterFault.TheVariants.{Unreadable, Output, BadLine, TooLong, NoMemory}

-- the exit status
abbrev pub status_of : FilterFault → ℕ
status_of Unreadable = 2
status_of Output = 4
status_of (BadLine number) = 5
status_of TooLong = 5
status_of NoMemory = 6

-- the fault of a failed read
abbrev pub of_read : ReadFault → FilterFault
of_read = either Unreadable NoMemory

-- whether a run ended because its input could not be read
abbrev pub is_unread : {A : Type 0} → Result A FilterFault → Bool
is_unread (Ok a) = false
is_unread (Err Unreadable) = true
is_unread (Err Output) = false
is_unread (Err (BadLine number)) = false
is_unread (Err TooLong) = false
is_unread (Err NoMemory) = false

-- whether it ended because its output could not be written
abbrev pub is_unwritten : {A : Type 0} → Result A FilterFault → Bool
is_unwritten (Ok a) = false
is_unwritten (Err Unreadable) = false
is_unwritten (Err Output) = true
is_unwritten (Err (BadLine number)) = false
is_unwritten (Err TooLong) = false
is_unwritten (Err NoMemory) = false
