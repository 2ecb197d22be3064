-- What a decoder makes of the number of a speed packet.
use Rattle.std.specs.Prelude.{ℕ, ◌+◌, ◌-◌, ◌*◌, ◌/◌, ◌%◌, ◌==◌, if◌then◌else◌, nat_lt}
use Rattle.dcc_packet.specs.declared.steps.Steps.{Steps}
use Rattle.dcc_packet.specs.declared.steps.Steps.TheVariants.{S28}
use Rattle.dcc_packet.specs.declared.steps.Motion.{Motion}
use Rattle.dcc_packet.specs.declared.steps.Motion.TheVariants.{Stop, Emergency, Step}

-- S-9.2.1, 2.3.3 with 28 steps, SSSSC: 0 and 1 stop, 2 and 3 emergency stop, n + 3 step n. 2.3.2 with 128 steps and
-- 2.3.3 with 14: 0 stop, 1 emergency stop, n + 1 step n.
abbrev pub motion_of_number : Steps → ℕ → Motion
motion_of_number S28 number = if nat_lt number 2 then Stop else (if nat_lt number 4 then Emergency else Step S28 (number - 3))
motion_of_number steps number = if number == 0 then Stop else (if number == 1 then Emergency else Step steps (number - 1))

-- SSSSC of the five bits CSSSS
abbrev pub number_28 : ℕ → ℕ
number_28 low = 2 * (low % 16) + low / 16 % 2
