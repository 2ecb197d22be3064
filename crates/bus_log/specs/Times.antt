-- The track time since the start with which each line of the log may begin.
use Rattle.std.specs.Prelude.{ℕ, ◌+◌, ◌/◌, ◌%◌, ◌^◌, ◌-◌, min, List, [], ◌∷◌, ◌++◌, None}
use Rattle.std.specs.Fmt.{decimal}
use Rattle.bus.specs.declared.outcome.Outcome.{Outcome}
use Rattle.bus.specs.declared.outcome.Outcome.TheVariants.{TurnBegan}
use Rattle.bus.specs.Bus.{duration}
use Rattle.bus_log.specs.declared.turn_times.TurnTimes.{TurnTimes}

-- at the start: a turn as long as one without power
abbrev pub first_times : TurnTimes
first_times = record { began = 0; ends = duration None }

-- A turn begins where the one before it ends, and lasts as long as its packet. Times stay at 2 ^ 64 - 1 microseconds.
abbrev pub times_after : TurnTimes → Outcome → TurnTimes
times_after before (TurnBegan packet) = record { began = before.ends; ends = min (before.ends + duration packet) (2 ^ 64 - 1) }
times_after before other = before

-- two and three digits
abbrev pub two_digits : ℕ → List ℕ
two_digits n = (48 + n / 10) ∷ (48 + n % 10) ∷ []

abbrev pub three_digits : ℕ → List ℕ
three_digits n = (48 + n / 100) ∷ two_digits (n % 100)

-- hours, minutes, seconds and milliseconds, and a space: 0:00:12.345
abbrev pub time_text : (millis : ℕ) → List ℕ
time_text millis =
    decimal (millis / 3600000) ++ (58 ∷ two_digits (millis / 60000 % 60)) ++ (58 ∷ two_digits (millis / 1000 % 60)) ++ (46 ∷ three_digits (millis % 1000)) ++ 32 ∷ []
