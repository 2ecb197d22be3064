-- Why arguments are not an order, and the exit status of that.
use Rattle.std.specs.Prelude.{ℕ, ◌≡◌, ◌≢◌, ◌⊎◌}
use Rattle.clap.specs.Kinds.{Kinds, IsAmong}
use Rattle.clap.specs.Values.{kind_of}
use Rattle.clap.specs.declared.error.Error.{Error}
use Rattle.clap.specs.declared.error.kind.ErrorKind.{ErrorKind}
use Rattle.clap.specs.declared.error.kind.ErrorKind.TheVariants.{OutOfMemory, ValueValidation}
use Rattle.command_line.specs.declared.fault.OrderFault.{OrderFault}
use Rattle.command_line.specs.declared.fault.OrderFault.TheVariants.{Usage, NoMemory}
use Rattle.command_line.specs.Values.{HasNone}

-- usage, memory: as the statuses of other faults
abbrev pub status_of : OrderFault → ℕ
status_of (Usage error) = 1
status_of NoMemory = 6

-- the fault of an error of clap
abbrev pub IsOfClap : Error → OrderFault → Type 0
IsOfClap error fault = (kind_of error ≡ OutOfMemory → fault ≡ NoMemory) × (kind_of error ≢ OutOfMemory → fault ≡ Usage error)

-- nothing if out of memory; otherwise the error is of this kind
abbrev pub IsOfKind : ErrorKind → OrderFault → Type 0
IsOfKind kind (Usage error) = kind_of error ≡ kind
IsOfKind kind NoMemory = Unit {0}

-- nothing if out of memory; otherwise a required value is missing, and the error says so
abbrev pub IsUnmatched : {A : Type 0} → (A → Type 0) → OrderFault → Type 0
IsUnmatched Is (Usage error) = HasNone Is × (kind_of error ≡ ValueValidation)
IsUnmatched Is NoMemory = Unit {0}

-- nothing if out of memory; otherwise clap rejects the arguments for one of these errors
abbrev pub IsRejectedBy : Kinds → OrderFault → Type 0
IsRejectedBy kinds (Usage error) = IsAmong (kind_of error) kinds
IsRejectedBy kinds NoMemory = Unit {0}

-- clap rejects the arguments for one of these errors, or no order corresponds to its matches
abbrev pub IsFaultOf : {A : Type 0} → Kinds → (A → Type 0) → OrderFault → Type 0
IsFaultOf kinds Is fault = IsRejectedBy kinds fault ⊎ IsUnmatched Is fault
