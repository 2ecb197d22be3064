-- The result of replaying a script.
use Rattle.std.specs.Prelude.{ℕ, ◌≡◌, ◌⊎◌, List, [], Option, Some, None, Result, Ok, Err, IfErr, length}
use Rattle.std.specs.Io.KnownBytes.{Appends, Consumes, IsAtEnd}
use Rattle.layout_core.specs.declared.world.World.{World}
use Rattle.roster.specs.Entry.{Entry}
use Rattle.show_text.specs.declared.command.Command.{Command}
use Rattle.show_text.specs.declared.command.ScriptFault.{ScriptFault}
use Rattle.show_text.specs.Script.{script_of}
use Rattle.console.specs.declared.fault.RunFault.{RunFault}
use Rattle.console.specs.declared.fault.RunFault.TheVariants.{NoMemory, Output, UnreadableInput}
use Rattle.console.specs.Fault.{of_script}
use Rattle.station.specs.Headline.{ShowsAsWanted}
use Rattle.station.specs.Replayed.{HasDone, commands_text, events_in}

-- Commands run on a layout, and their text is printed; a locomotive that heard a full refresh cycle
-- is shown as its slot asks.
pub record Replays (start : World) (entries : List Entry) (commands : List Command) (new : World) (old_output new_output : Option (List ℕ)) : Type 0 where
  pub done : HasDone (events_in commands) start new
  pub printed : Appends old_output new_output (commands_text start entries [] commands)
  pub wanted : ShowsAsWanted start entries commands

-- the text is a script for this layout, and its commands are replayed
abbrev pub ReplaysText : (text : List ℕ) → (start : World) → List Entry → (new : World) → (old_output new_output : Option (List ℕ)) → Type 0
ReplaysText text start entries new old_output new_output =
    (commands : List Command) × (script_of (length start.station.lines) (length start.nodes) text ≡ Ok commands)
    × Replays start entries commands new old_output new_output

-- the text was read, to its end
abbrev pub ReplaysInput : (old_input new_input : Option (List ℕ)) → (start : World) → List Entry → (new : World) → (old_output new_output : Option (List ℕ)) → Type 0
ReplaysInput old_input new_input start entries new old_output new_output =
    (text : List ℕ) × Consumes old_input new_input text × IsAtEnd new_input × ReplaysText text start entries new old_output new_output

-- the fault of a run whose script has this one, unless the script could not be read
abbrev pub IsRefusal : ScriptFault → RunFault → Type 0
IsRefusal fault e = (e ≡ of_script fault) ⊎ (e ≡ UnreadableInput) ⊎ (e ≡ NoMemory)

-- If the input is not a script, nothing is run and nothing printed, and the fault is reported.
abbrev pub RefusesInput : {A : Type 0} → (input : Option (List ℕ)) → Result A RunFault → (start new : World) → (old_output new_output : Option (List ℕ)) → Type 0
RefusesInput None result start new old_output new_output = Unit {0}
RefusesInput (Some text) result start new old_output new_output =
    (fault : ScriptFault) → script_of (length start.station.lines) (length start.nodes) text ≡ Err fault
    → (new ≡ start) × (new_output ≡ old_output) × IfErr result (IsRefusal fault)

-- If it is one, a run that fails had a failed read or write, or no memory.
abbrev pub IsBroken : RunFault → Type 0
IsBroken e = (e ≡ UnreadableInput) ⊎ (e ≡ Output) ⊎ (e ≡ NoMemory)

abbrev pub FailsInput : {A : Type 0} → (input : Option (List ℕ)) → Result A RunFault → (start : World) → Type 0
FailsInput None result start = Unit {0}
FailsInput (Some text) result start =
    (commands : List Command) → script_of (length start.station.lines) (length start.nodes) text ≡ Ok commands → IfErr result IsBroken
