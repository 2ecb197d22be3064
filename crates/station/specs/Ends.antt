-- The end of a run that fails: which fault is returned when.
use Rattle.std.specs.Prelude.{ℕ, ◌≡◌, ◌⊎◌, Bool, true, false, List, Option, None, Err, length}
use Rattle.clap.specs.Kinds.{IsAmong}
use Rattle.clap.specs.Words.{Text}
use Rattle.clap.specs.declared.error.kind.ErrorKind.{ErrorKind}
use Rattle.station_orders.specs.declared.words.Order.{Order}
use Rattle.station_orders.specs.declared.words.Order.TheVariants.{Replay, Monitor, Serve}
use Rattle.command_line.specs.Values.{HasNone}
use Rattle.station_orders.specs.Fault.{refusals}
use Rattle.station_orders.specs.Order.{IsOrderOf}
use Rattle.console.specs.declared.fault.RunFault.{RunFault}
use Rattle.console.specs.declared.fault.RunFault.TheVariants.{Lines, NoMemory, Output, UnreadableInput}
use Rattle.console.specs.Fault.{is_unwritten, of_script, status_of}
use Rattle.console.specs.Files.{HasNoRoster, IsRosterOf}
use Rattle.console.specs.Monitored.{FailsMonitor}
use Rattle.input_text.specs.Read.{ReadsMost}
use Rattle.layout_core.specs.declared.world.World.{World}
use Rattle.roster.specs.Entry.{Entry}
use Rattle.show_text.specs.declared.command.ScriptFault.{ScriptFault}
use Rattle.show_text.specs.Script.{script_of}
use Rattle.station_core.specs.Seen.{is_line_count}
use Rattle.station.specs.Runs.{IsNew}

-- A script is not replayed: a read of the input failed, memory ran out, the output failed, or the
-- bytes read, all of them or 1,048,577, have this fault, the first.
abbrev pub FailsReplay : (start : World) → (old_input new_input : Option (List ℕ)) → (has_failed : Bool) → RunFault → Type 0
FailsReplay start old_input new_input has_failed fault =
    ((fault ≡ UnreadableInput) × (has_failed ≡ true))
    ⊎ (fault ≡ NoMemory)
    ⊎ (fault ≡ Output)
    ⊎ ((text : List ℕ) × (bad : ScriptFault) × ReadsMost old_input new_input 1048577 text × (script_of (length start.station.lines) (length start.nodes) text ≡ Err bad) × (fault ≡ of_script bad))

-- on a new layout: there is no roster, or no layout, or it is not replayed there
abbrev pub FailsReplayNew : (lines : ℕ) → (file : Option Text) → (old_input new_input : Option (List ℕ)) → (has_failed : Bool) → RunFault → Type 0
FailsReplayNew lines file old_input new_input has_failed fault =
    HasNoRoster file fault
    ⊎ ((fault ≡ Lines) × (is_line_count lines ≡ false))
    ⊎ (fault ≡ NoMemory)
    ⊎ ((roster : Option (List Entry)) × (start : World) × IsRosterOf file roster × IsNew lines roster start × FailsReplay start old_input new_input has_failed fault)

-- connections are not served: there is no roster, memory ran out, or the network or the output
-- failed
abbrev pub FailsServe : (file : Option Text) → RunFault → Type 0
FailsServe file fault = HasNoRoster file fault ⊎ (fault ≡ NoMemory) ⊎ (status_of fault ≡ 4)

-- an order is not carried out
abbrev pub FailsOrder : Order → (old_input new_input : Option (List ℕ)) → (has_failed : Bool) → RunFault → Type 0
FailsOrder (Replay lines file) old_input new_input has_failed fault = FailsReplayNew lines file old_input new_input has_failed fault
FailsOrder (Monitor file) old_input new_input has_failed fault = FailsMonitor file None None fault
FailsOrder (Serve port file turns reads connections) old_input new_input has_failed fault = FailsServe file fault

-- the arguments are not an order: clap rejects them, or no order corresponds to its matches
abbrev pub AreNoOrder : List Text → Type 0
AreNoOrder words = ((kind : ErrorKind) × IsAmong kind (refusals words)) ⊎ HasNone (IsOrderOf words)

-- The status of a run that does not end with 0. The arguments are not an order, 1, or memory ran
-- out, 6; or they are one, which is not carried out. A write or a flush of the output failed
-- exactly if the fault is that it could not be written.
abbrev pub EndsAs : (words : List Text) → (old_input new_input : Option (List ℕ)) → (read_failed write_failed : Bool) → (status : ℕ) → Type 0
EndsAs words old_input new_input read_failed write_failed status =
    ((status ≡ 1) × AreNoOrder words × (write_failed ≡ false))
    ⊎ ((status ≡ 6) × (write_failed ≡ false))
    ⊎ ((order : Order) × (fault : RunFault) × IsOrderOf words order × FailsOrder order old_input new_input read_failed fault
    × (write_failed ≡ is_unwritten fault) × (status ≡ status_of fault))
