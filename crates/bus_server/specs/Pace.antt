-- What the turns of the track follow.
use Rattle.std.specs.Prelude.{ℕ, ◌+◌, ◌-◌, ◌*◌, ◌/◌, ◌&&◌, min, nat_le, Bool, true, false, Option, Some, None}
use Rattle.bus_server.specs.declared.pace.Pace.{Pace}
use Rattle.bus_server.specs.declared.pace.Pace.TheVariants.{AfterMessages, RealTime}

-- turns follow messages, and clients may request them
abbrev pub follows_messages : Pace → Bool
follows_messages (AfterMessages turns) = true
follows_messages (RealTime rate) = false

-- time elapses 1 to 100 times as fast as by the clock
abbrev pub is_pace : Pace → Bool
is_pace (AfterMessages turns) = true
is_pace (RealTime rate) = nat_le 1 rate && nat_le rate 100

-- the longest time of one round by the clock, in microseconds: a second
abbrev pub longest_step : ℕ
longest_step = 1000000

-- the time of the track for a reading of the clock, of which what is beyond a second is skipped
abbrev pub track_time : (rate micros : ℕ) → ℕ
track_time rate micros = rate * min micros longest_step

-- how long the clock runs, rounded up, while this much track time elapses: without end, if turns
-- follow messages
abbrev pub clock_time : Pace → (remaining : ℕ) → Option ℕ
clock_time (AfterMessages turns) remaining = None
clock_time (RealTime rate) remaining = Some ((remaining - 1) / rate + 1)
