-- The parts of a time in which a train changes its speed evenly.
use Rattle.std.specs.Prelude.{ℕ, ◌≡◌, ◌<◌, ◌≤◌, ◌^◌, ◌+◌, ◌-◌, ◌*◌, ◌/◌, ◌==◌, min, Bool, if◌then◌else◌}
use Rattle.motion.specs.declared.leg.Leg.{Leg}
use Rattle.motion.specs.Velocity.{velocity, sum_below}

-- an even speed
abbrev pub steady_leg : (forward : Bool) → (speed micros : ℕ) → Leg
steady_leg forward speed micros =
    record { micros = micros; way = speed * micros; velocity = velocity forward speed }

-- the last microsecond on the way to a speed
abbrev pub last_leg : (forward : Bool) → (target : ℕ) → Leg
last_leg forward target =
    record { micros = 1; way = target; velocity = velocity forward target }

-- so many equal steps up
abbrev pub up_leg : (forward : Bool) → (speed rate steps : ℕ) → Leg
up_leg forward speed rate steps = record {
  micros = steps;
  way = steps * speed + rate * sum_below (steps + 1);
  velocity = velocity forward (speed + steps * rate);
}

-- so many equal steps down to a speed
abbrev pub down_leg : (forward : Bool) → (base rate steps : ℕ) → Leg
down_leg forward base rate steps = record {
  micros = steps;
  way = steps * base + rate * sum_below steps;
  velocity = velocity forward base;
}

-- a train gathers speed
abbrev pub rising_leg : (forward : Bool) → (speed target rate micros : ℕ) → Leg
rising_leg forward speed target rate micros =
    if (target - speed) / rate == 0 then last_leg forward target else
    up_leg forward speed rate (min ((target - speed) / rate) micros)

-- a train brakes
abbrev pub falling_leg : (forward : Bool) → (speed target rate micros : ℕ) → Leg
falling_leg forward speed target rate micros =
    if (speed - target) / rate == 0 then last_leg forward target else
    down_leg forward (speed - min ((speed - target) / rate) micros * rate) rate
    (min ((speed - target) / rate) micros)

-- a change between two speeds, at a rate, in a part that is not too long
pub record IsChange (low high each micros : ℕ) : Type 0 where
  pub differs : low < high
  pub slow : high ≤ 2199023255552
  pub rate : 0 < each
  pub short : micros ≤ 1048576

-- this part, whose way is short enough
pub record GivesLeg (wanted given : Leg) : Type 0 where
  pub leg : given ≡ wanted
  pub short : given.way < 2 ^ 63
