-- What a slot asks of a decoder: its steps, and its motion in them.
use Rattle.std.specs.Prelude.{ℕ, ◌+◌, ◌-◌, ◌*◌, ◌/◌, ◌==◌, ◌||◌, if◌then◌else◌, Option, Some, None}
use Rattle.dcc_packet.specs.declared.steps.Steps.{Steps}
use Rattle.dcc_packet.specs.declared.steps.Steps.TheVariants.{S14, S28, S128}
use Rattle.dcc_packet.specs.declared.steps.Motion.{Motion}
use Rattle.dcc_packet.specs.declared.steps.Motion.TheVariants.{Stop, Emergency, Step}

-- LocoNet, bits 2 to 0 of STAT1; 4 and 7, which allow consisting, are driven as 0 and 3 (own)
abbrev pub steps_of_kind : ℕ → Option Steps
steps_of_kind kind =
    if kind == 2 then Some S14 else
    (if (kind == 0) || (kind == 4) then Some S28 else
    (if (kind == 3) || (kind == 7) then Some S128 else None))

-- the step of SPD from 2 to 127, rounded down (own)
abbrev pub step_of : Steps → ℕ → ℕ
step_of S14 spd = 1 + (spd - 2) / 9
step_of S28 spd = 1 + 2 * (spd - 2) / 9
step_of S128 spd = spd - 1

-- LocoNet, SPD: 0 stop, 1 emergency stop, above them rising speeds
abbrev pub motion_of : Steps → ℕ → Motion
motion_of steps spd = if spd == 0 then Stop else (if spd == 1 then Emergency else Step steps (step_of steps spd))
