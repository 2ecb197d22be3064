-- What is to be done for a page that has been silent for a number of microseconds (own).
use Rattle.std.specs.Prelude.{ℕ, ◌-◌, ◌&&◌, Bool, if◌then◌else◌, nat_le, not}
use Rattle.sockets.specs.declared.silence.Action.{Action}
use Rattle.sockets.specs.declared.silence.Action.TheVariants.{End, Nothing, Ping}

-- a ping after 20 seconds, once, and its end after 40
abbrev pub action_after : (silent : ℕ) → (is_pinged : Bool) → Action
action_after silent is_pinged = if nat_le 40000000 silent then End else if nat_le 20000000 silent && not is_pinged then Ping else Nothing

-- the microseconds until then
abbrev pub left_after : (silent : ℕ) → (is_pinged : Bool) → ℕ
left_after silent is_pinged = (if is_pinged then 40000000 else 20000000) - silent
