-- The result of monitoring an input.
use Rattle.std.specs.Prelude.{ℕ, ◌≡◌, ◌⊎◌, List, Option, Ok, Err}
use Rattle.std.specs.Io.KnownBytes.{Consumes, IsAtEnd}
use Rattle.input_text.specs.Read.{ReadsMost}
use Rattle.text.specs.HexText.{hex_of}
use Rattle.text.specs.declared.hex_text.HexFault.{HexFault}
use Rattle.console.specs.declared.fault.RunFault.{RunFault}
use Rattle.console.specs.declared.fault.RunFault.TheVariants.{Unreadable, Output, NoMemory}
use Rattle.console.specs.Fault.{of_hex}
use Rattle.console.specs.Printed.{PrintsMessages}

-- the whole input was read, and the messages in it were printed
abbrev pub MonitorsInput : (old_input new_input old_output new_output : Option (List ℕ)) → Type 0
MonitorsInput old_input new_input old_output new_output =
    (text : List ℕ) × Consumes old_input new_input text × IsAtEnd new_input × PrintsMessages text old_output new_output

-- Why the messages of a text were not printed: the text has this fault, the first, or it has none,
-- and the output failed.
abbrev pub FailsHex : (text : List ℕ) → RunFault → Type 0
FailsHex text fault =
    (fault ≡ NoMemory)
    ⊎ ((bad : HexFault) × (hex_of text ≡ Err bad) × (fault ≡ of_hex bad))
    ⊎ ((bytes : List ℕ) × (hex_of text ≡ Ok bytes) × (fault ≡ Output))

-- Why an input, a file of this name, was not monitored: a read of it failed, or the bytes read have
-- a fault.
abbrev pub FailsMonitor : (file : List ℕ) → (old_input new_input : Option (List ℕ)) → RunFault → Type 0
FailsMonitor file old_input new_input fault =
    (fault ≡ Unreadable file) ⊎ (fault ≡ NoMemory) ⊎ ((text : List ℕ) × ReadsMost old_input new_input 1048577 text × FailsHex text fault)
