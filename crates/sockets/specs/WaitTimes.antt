-- Times to wait.
use Rattle.std.specs.Prelude.{ℕ, min, Option, Some, None}

-- the sooner of two times to wait; None is a wait without end
abbrev pub sooner : Option ℕ → Option ℕ → Option ℕ
sooner None other = other
sooner (Some one) None = Some one
sooner (Some one) (Some other) = Some (min one other)
