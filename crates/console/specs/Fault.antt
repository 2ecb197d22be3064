-- The exit status of a fault, and the numbers of faults.
use Rattle.std.specs.Prelude.{ℕ, ◌==◌, Bool, true, false, List, Result, Ok, Err}
use Rattle.show_text.specs.declared.command.ScriptFaultKind.{ScriptFaultKind as ScriptWhy}
use Rattle.show_text.specs.declared.command.ScriptFaultKind.TheVariants as script
use Rattle.show_text.specs.declared.command.ScriptFault.{ScriptFault}
use Rattle.text.specs.declared.hex_text.HexWhy.{HexWhy}
use Rattle.text.specs.declared.hex_text.HexWhy.TheVariants as hex
use Rattle.text.specs.declared.hex_text.HexFault.{HexFault}
use Rattle.roster.specs.declared.fault.RosterFaultKind.{RosterFaultKind as RosterWhy}
use Rattle.roster.specs.declared.fault.RosterFaultKind.TheVariants as roster
use Rattle.roster.specs.declared.fault.RosterFault.{RosterFault}
use Rattle.input_text.specs.declared.input.ReadFault.{ReadFault}
use Rattle.input_text.specs.Fault.{either}
use Rattle.console.specs.declared.fault.RunFault.{RunFault}
use Rattle.console.specs.declared.fault.RunFault.TheVariants.{Lines, Unreadable, UnreadableInput, TooLong, Roster, Network, Output, Serve, Script, Hex, NoMemory}

-- lines of a station, files, roster, network and output, script and hex text, memory
abbrev pub status_of : RunFault → ℕ
status_of Lines = 1
status_of (Unreadable file) = 2
status_of UnreadableInput = 2
status_of (TooLong file) = 2
status_of (Roster number node) = 3
status_of Network = 4
status_of Output = 4
status_of (Serve number) = 4
status_of (Script number line) = 5
status_of (Hex number at) = 5
status_of NoMemory = 6

-- the fault of a failed read of standard input
abbrev pub of_read : ReadFault → RunFault
of_read = either UnreadableInput NoMemory

-- the fault of a failed read of a file
abbrev pub of_file : List ℕ → ReadFault → RunFault
of_file file = either (Unreadable file) NoMemory

-- a file could not be read
abbrev pub is_unread_file : RunFault → Bool
is_unread_file (Unreadable file) = true
is_unread_file other = false

-- standard input could not be read
abbrev pub is_unread_input : RunFault → Bool
is_unread_input UnreadableInput = true
is_unread_input other = false

-- the output could not be written: by a line of a run, or by the trace of a connection
abbrev pub is_unwritten : RunFault → Bool
is_unwritten Output = true
is_unwritten (Serve number) = number == 3
is_unwritten other = false

-- whether a run ended in such a fault
abbrev pub ended_by : {A : Type 0} → (RunFault → Bool) → Result A RunFault → Bool
ended_by is (Ok a) = false
ended_by is (Err fault) = is fault

abbrev pub roster_fault : RosterWhy → ℕ → RunFault
roster_fault roster.NotToml node = Roster 1 node
roster_fault roster.BadShape node = Roster 2 node
roster_fault roster.TooMany node = Roster 3 node
roster_fault roster.BadName node = Roster 4 node
roster_fault roster.BadCv node = Roster 5 node
roster_fault roster.BadModule node = Roster 6 node
roster_fault roster.Empty node = Roster 7 node
roster_fault roster.NoMemory node = NoMemory
roster_fault roster.BadCvList node = Roster 9 node

abbrev pub of_roster : RosterFault → RunFault
of_roster fault = roster_fault fault.why fault.node

abbrev pub script_fault : ScriptWhy → ℕ → RunFault
script_fault script.BadWord line = Script 1 line
script_fault script.BadHex line = Script 2 line
script_fault script.BadNumber line = Script 3 line
script_fault script.BadLine line = Script 4 line
script_fault script.BadNode line = Script 5 line
script_fault script.TooLong line = Script 6 line
script_fault script.NoMemory line = NoMemory

abbrev pub of_script : ScriptFault → RunFault
of_script fault = script_fault fault.why fault.line

abbrev pub hex_fault : HexWhy → ℕ → RunFault
hex_fault hex.BadHex at = Hex 1 at
hex_fault hex.TooLong at = Hex 2 at
hex_fault hex.NoMemory at = NoMemory

abbrev pub of_hex : HexFault → RunFault
of_hex fault = hex_fault fault.why fault.at
