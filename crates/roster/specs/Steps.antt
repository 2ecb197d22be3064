-- Steps that each may find a fault: the first fault decides.
use Rattle.std.specs.Prelude.{Option, Some, None, Result, Ok, Err}

infixl 10 ◌>>=◌
abbrev pub ◌>>=◌ : {A B E : Type 0} → Result A E → (A → Result B E) → Result B E
(Ok x) >>= f = f x
(Err e) >>= f = Err e

-- nothing there is this fault
abbrev pub or_fault : {A E : Type 0} → Option A → E → Result A E
or_fault (Some x) fault = Ok x
or_fault None fault = Err fault
