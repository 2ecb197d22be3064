-- Arguments that ask for help or the version.
use Rattle.std.specs.Prelude.{◌≡◌, ◌⊎◌, Bool, true, false}
use Rattle.clap.specs.Kinds.{Kinds, IsAmong}
use Rattle.clap.specs.Values.{kind_of}
use Rattle.clap.specs.declared.error.kind.ErrorKind.{ErrorKind}
use Rattle.clap.specs.declared.error.kind.ErrorKind.TheVariants.{DisplayHelp, DisplayVersion}
use Rattle.command_line.specs.declared.fault.OrderFault.{OrderFault}
use Rattle.command_line.specs.declared.fault.OrderFault.TheVariants.{Usage, NoMemory}

abbrev pub is_request_kind : ErrorKind → Bool
is_request_kind DisplayHelp = true
is_request_kind DisplayVersion = true
is_request_kind _ = false

-- whether the fault is no fault, but help or the version
abbrev pub is_request : OrderFault → Bool
is_request (Usage error) = is_request_kind (kind_of error)
is_request NoMemory = false

-- clap answers the arguments with help or the version
abbrev pub AsksForText : Kinds → Type 0
AsksForText kinds = IsAmong DisplayHelp kinds ⊎ IsAmong DisplayVersion kinds

-- if the fault is a requested text, clap answers the arguments with one
abbrev pub IsRequestedBy : Kinds → OrderFault → Type 0
IsRequestedBy kinds fault = is_request fault ≡ true → AsksForText kinds
