-- A pipe of standard output that its reader closes, as `head` does once it has its lines.
use Rattle.std.specs.Prelude.{ℕ, ◌==◌, Bool, ◌&&◌, if◌then◌else◌}

-- The exit status of a run with this status: a failed output, 4, is no fault if its reader has closed the pipe.
abbrev pub exit_status : (status : ℕ) → (is_closed : Bool) → ℕ
exit_status status is_closed = if (status == 4) && is_closed then 0 else status
