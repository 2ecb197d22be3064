-- The log of all that has happened so far, in order, if it is known.
use Rattle.std.specs.Prelude.{◌≡◌, List, ◌++◌, Option, Some, None}

-- it grew by these entries; nothing if it is not known
abbrev pub Extends : {A : Type 0} → (old new : Option (List A)) → (more : List A) → Type 0
Extends None None more = Unit {0}
Extends None (Some new) more = ⊥
Extends (Some old) None more = ⊥
Extends (Some old) (Some new) more = new ≡ old ++ more
