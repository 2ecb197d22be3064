-- Which variables differ from the file, and what an instruction changes.
use Rattle.std.specs.Prelude.{ℕ, ◌==◌, Bool, not, if◌then◌else◌, List, Option, Some, None, slice_index, slice_set}
use Rattle.std.specs.List.{fold}
use Rattle.std.specs.Str.{bytes_eq}
use Rattle.service_mode.specs.declared.instruction.Instruction.{Instruction}
use Rattle.service_mode.specs.declared.packet.ServicePacket.{ServicePacket}
use Rattle.service_mode.specs.declared.packet.ServicePacket.TheVariants.{Reset, Direct}
use Rattle.cv_memory.specs.declared.cv_change.CvChange.{CvChange}
use Rattle.cv_memory.specs.declared.cv_change.CvChange.TheVariants as change
use Rattle.cv_memory.specs.Hearing.{CvState, is_obeyed, values_after}
use Rattle.cv_memory.specs.History.{address_of, resets}

-- the variable at an address differs from the file
abbrev pub is_changed : CvState → (address : ℕ) → Bool
is_changed d address = not (slice_index d.values address == slice_index d.filed address)

-- the variable at an address has another value after an instruction
abbrev pub stored_between : (address : ℕ) → (before after : List ℕ) → Option CvChange
stored_between address before after =
    if slice_index before address == slice_index after address then None
    else Some (change.Stored address (slice_index after address))

-- some variable has
abbrev pub reset_between : (before after : List ℕ) → Option CvChange
reset_between before after = if bytes_eq before after then None else Some change.Reset

abbrev pub change_between : Instruction → (before after : List ℕ) → Option CvChange
change_between instruction before after =
    if resets instruction then reset_between before after
    else stored_between (address_of instruction) before after

-- what a packet changes: an instruction that is obeyed
abbrev pub change_by : CvState → Option ServicePacket → Option CvChange
change_by d None = None
change_by d (Some Reset) = None
change_by d (Some (Direct instruction)) =
    if is_obeyed d instruction then change_between instruction d.values (values_after d instruction) else None

-- the variables after changes
abbrev pub after_change : (filed values : List ℕ) → CvChange → List ℕ
after_change filed values (change.Stored address value) = slice_set values address value
after_change filed values change.Reset = filed

abbrev pub after_some_change : (filed values : List ℕ) → Option CvChange → List ℕ
after_some_change filed values None = values
after_some_change filed values (Some one) = after_change filed values one

abbrev pub after_changes : (filed values : List ℕ) → List CvChange → List ℕ
after_changes filed = fold (after_change filed)
