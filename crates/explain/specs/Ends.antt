-- Whether a run found that its input could not be read.
use Rattle.std.specs.Prelude.{Bool, true, false, Option, Some, None, Result, Ok, Err}
use Rattle.explain.specs.declared.end.End.{End}
use Rattle.explain.specs.declared.end.End.TheVariants.{Whole, Unreadable}
use Rattle.filter.specs.declared.fault.FilterFault.{FilterFault}

abbrev pub read_failed : End → Bool
read_failed Whole = false
read_failed Unreadable = true

-- after its end
abbrev pub has_unread : Result End FilterFault → Bool
has_unread (Ok end) = read_failed end
has_unread (Err fault) = false

-- while more may follow
abbrev pub has_unread_yet : Result (Option End) FilterFault → Bool
has_unread_yet (Ok None) = false
has_unread_yet (Ok (Some end)) = read_failed end
has_unread_yet (Err fault) = false
