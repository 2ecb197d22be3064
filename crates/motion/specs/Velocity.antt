-- How a train gathers speed and brakes, one microsecond after another.
use Rattle.std.specs.Prelude.{ℕ, zero, suc, ◌≡◌, ◌+◌, ◌-◌, ◌*◌, ◌/◌, ◌%◌, ◌^◌, ◌≤◌, ◌<◌, ◌==◌, ◌&&◌, ◌||◌, min, max, Bool, true, not, nat_le, if◌then◌else◌, Option, Some, None, IsTrue}
use Rattle.motion.specs.declared.leg.Leg.{Leg}
use Rattle.motion.specs.declared.velocity.Velocity.{Velocity}
use Rattle.motion.specs.declared.velocity.Momentum.{Momentum}
use Rattle.motion.specs.declared.velocity.Drive.{Drive}

abbrev pub same_bool : Bool → Bool → Bool
same_bool one two = if one then two else not two

abbrev pub velocity : (forward : Bool) → (speed : ℕ) → Velocity
velocity forward speed = record { forward = forward; speed = speed }

-- a speed that is nearer to another by at most so much, and does not pass it
abbrev pub toward : (acceleration braking : ℕ) → (speed target : ℕ) → ℕ
toward acceleration braking speed target =
    if nat_le speed target then min (speed + acceleration) target else max (speed - braking) target

-- it stands, or goes in the direction in which it is asked to
abbrev pub is_facing : Drive → Velocity → Bool
is_facing drive v = v.speed == 0 || same_bool v.forward drive.forward

-- With momentum a train that goes the other way first brakes to standstill.
abbrev pub eased : Momentum → Drive → Velocity → Velocity
eased momentum drive v =
    if is_facing drive v
    then velocity drive.forward (toward momentum.acceleration momentum.braking v.speed drive.speed)
    else velocity v.forward (v.speed - momentum.braking)

abbrev pub next_velocity_by : Option Momentum → Drive → Velocity → Velocity
next_velocity_by None drive v = velocity drive.forward drive.speed
next_velocity_by (Some momentum) drive v = eased momentum drive v

-- the velocity in the next microsecond
abbrev pub next_velocity : Drive → Velocity → Velocity
next_velocity drive v = next_velocity_by drive.momentum drive v

-- the velocity after so many microseconds in which this is asked for
unfoldable pub velocity_after : Drive → (micros : ℕ) → Velocity → Velocity
velocity_after drive zero v = v
velocity_after drive (suc micros) v = velocity_after drive micros (next_velocity drive v)

-- how far it goes in that time, in femtometres, in either direction
unfoldable pub way : Drive → (micros : ℕ) → Velocity → ℕ
way drive zero v = 0
way drive (suc micros) v = (next_velocity drive v).speed + way drive micros (next_velocity drive v)

abbrev pub speed_in : (forward : Bool) → Velocity → ℕ
speed_in forward v = if same_bool v.forward forward then v.speed else 0

-- how far it goes in one direction
unfoldable pub way_in : (forward : Bool) → Drive → (micros : ℕ) → Velocity → ℕ
way_in forward drive zero v = 0
way_in forward drive (suc micros) v =
    speed_in forward (next_velocity drive v) + way_in forward drive micros (next_velocity drive v)

-- it has this direction in each of the microseconds
unfoldable pub goes_only : (forward : Bool) → Drive → (micros : ℕ) → Velocity → Bool
goes_only forward drive zero v = true
goes_only forward drive (suc micros) v =
    same_bool (next_velocity drive v).forward forward
    && goes_only forward drive micros (next_velocity drive v)

abbrev pub is_momentum : Option Momentum → Bool
is_momentum None = true
is_momentum (Some momentum) = nat_le 1 momentum.acceleration && nat_le 1 momentum.braking

-- a speed of at most 2 ^ 41 femtometres a microsecond, and rates of at least 1
abbrev pub is_drive : Drive → Bool
is_drive drive = nat_le drive.speed 2199023255552 && is_momentum drive.momentum

-- a part of a time in one direction: the way in it, and the velocity after it
pub record IsLeg (drive : Drive) (v : Velocity) (micros : ℕ) (leg : Leg) : Type 0 where
  pub goes : 0 < leg.micros
  pub part : leg.micros ≤ micros
  pub reached : leg.velocity ≡ velocity_after drive leg.micros v
  pub far : leg.way ≡ way drive leg.micros v
  pub one_way : IsTrue (goes_only leg.velocity.forward drive leg.micros v)
  pub slow : leg.velocity.speed ≤ 2199023255552
  pub short : leg.way < 2 ^ 63

-- 0 + 1 + .. + (n - 1)
unfoldable pub sum_below : (n : ℕ) → ℕ
sum_below zero = 0
sum_below (suc n) = n + sum_below n

-- the way from a speed to standstill
abbrev pub braking_way : (speed braking : ℕ) → ℕ
braking_way speed braking =
    speed / braking * (speed % braking) + braking * (speed / braking * (speed / braking - 1) / 2)

-- it stands at a moment within so many microseconds
pub record IsStandstillBetween (drive : Drive) (micros : ℕ) (v : Velocity) : Type 0 where
  pub moment : ℕ
  pub within : moment ≤ micros
  pub stands : (velocity_after drive moment v).speed ≡ 0

-- the microseconds that a change of speed takes at a rate, rounded up; at least one
abbrev pub ticks : (change rate : ℕ) → ℕ
ticks change rate = max 1 ((change + (rate - 1)) / rate)

abbrev pub ramp_to : Momentum → (speed target : ℕ) → ℕ
ramp_to momentum speed target =
    if nat_le speed target then ticks (target - speed) momentum.acceleration
    else ticks (speed - target) momentum.braking

abbrev pub ramp_by : Option Momentum → Drive → Velocity → ℕ
ramp_by None drive v = 1
ramp_by (Some momentum) drive v =
    if is_facing drive v then ramp_to momentum v.speed drive.speed else
    ticks v.speed momentum.braking + ticks drive.speed momentum.acceleration

-- The time that a ramp needs, in microseconds: one that leads to the other direction first leads to
-- standstill.
abbrev pub ramp : Drive → Velocity → ℕ
ramp drive v = ramp_by drive.momentum drive v
