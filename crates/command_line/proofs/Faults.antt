-- Why clap rejects arguments.
use Rattle.std.proofs.Common.{◌≡◌, ◌≢◌, ◌⊎◌, inl, inr, true, Result, Ok, Err, refl, sym, subst}
use Rattle.std.specs.Prelude.{IfErr, IsErrAnd}
use Rattle.clap.specs.Kinds.{HasKind, IsAmong, Kinds}
use Rattle.clap.specs.Values.{kind_of}
use Rattle.clap.specs.declared.error.Error.{Error}
use Rattle.clap.specs.declared.error.kind.ErrorKind.{ErrorKind}
use Rattle.clap.specs.declared.error.kind.ErrorKind.TheVariants.{DisplayHelp, DisplayVersion, OutOfMemory}
use Rattle.command_line.specs.declared.fault.OrderFault.{OrderFault}
use Rattle.command_line.specs.declared.fault.OrderFault.TheVariants.{Usage, NoMemory}
use Rattle.command_line.specs.Fault.{IsOfClap, IsRejectedBy}
use Rattle.command_line.specs.Requests.{AsksForText, IsRequestedBy, is_request_kind}

is_memory : (kind : ErrorKind) → (kind ≡ OutOfMemory) ⊎ (kind ≢ OutOfMemory)
is_memory OutOfMemory = inl refl
is_memory _ = inr (λ e. cc)

-- the fault of an error of clap
rejected : (kinds : Kinds) (error : Error) (fault : OrderFault) → IsOfClap error fault → HasKind kinds error → IsRejectedBy kinds fault
rejected kinds error fault made has = elim (is_memory (kind_of error)) [
  | inl memory ↦ subst (IsRejectedBy kinds) (sym (made.0 memory)) tt
  | inr other ↦ subst (IsRejectedBy kinds) (sym (made.1 other)) (elim has [
    | inl memory ↦ absurd (other memory)
    | inr among ↦ among
  ])
]

pub of_rejection : {A : Type 0} (kinds : Kinds) (error : Error) (r : Result A OrderFault) → IsErrAnd r (IsOfClap error) → HasKind kinds error → IfErr r (IsRejectedBy kinds)
of_rejection {A} kinds error (Ok a) made has = tt
of_rejection {A} kinds error (Err fault) made has = rejected kinds error fault made has

-- a requested text is one of the errors for which clap rejects the arguments
by_kind : (kinds : Kinds) (kind : ErrorKind) → is_request_kind kind ≡ true → IsAmong kind kinds → AsksForText kinds
by_kind kinds DisplayHelp asked among = inl among
by_kind kinds DisplayVersion asked among = inr among
by_kind kinds _ asked among = cc

pub of_rejected : {A : Type 0} (kinds : Kinds) (r : Result A OrderFault) → IfErr r (IsRejectedBy kinds) → IfErr r (IsRequestedBy kinds)
of_rejected kinds (Ok a) among = tt
of_rejected kinds (Err NoMemory) among = λ asked. cc
of_rejected kinds (Err (Usage error)) among = λ asked. by_kind kinds (kind_of error) asked among
