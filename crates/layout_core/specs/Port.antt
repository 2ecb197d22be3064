-- The parts of a port that clauses use, and how a port converts a result.
use Rattle.std.specs.Prelude.{ℕ, Bool, ◌==◌, if◌then◌else◌, Option, Some, None, Result, Ok, Err}
use Rattle.layout_core.specs.declared.port.Port.{Port}

abbrev pub port_inner : {T : Type 0} → Port T → T
port_inner p = p.inner

abbrev pub port_failed : {T : Type 0} → Port T → Bool
port_failed p = p.failed

abbrev pub port_ended : {T : Type 0} → Port T → Bool
port_ended p = p.ended

abbrev pub port_reads : {T : Type 0} → Port T → ℕ
port_reads p = p.reads.count

-- the count returned; none at an error
abbrev pub count_of : {E : Type 0} → Result ℕ E → Option ℕ
count_of (Ok n) = Some n
count_of (Err e) = None

-- the same, where 0 is an error
abbrev pub some_count_of : {E : Type 0} → Result ℕ E → Option ℕ
some_count_of (Ok n) = if n == 0 then None else Some n
some_count_of (Err e) = None
