-- How a locomotive runs, for C.
use Rattle.std.specs.Prelude.{ℕ, Bool}
use Rattle.dcc_packet.specs.declared.steps.Steps.{Steps}
use Rattle.dcc_packet.specs.declared.steps.Steps.TheVariants.{S14, S28, S128}
use Rattle.dcc_packet.specs.declared.steps.Motion.{Motion as Asked}
use Rattle.dcc_packet.specs.declared.steps.Motion.TheVariants.{Stop, Emergency, Step}
use Rattle.decoder_node.specs.declared.running.Running.{Running}
use Rattle.station_c.specs.declared.driving.Motion.{Motion}

abbrev pub steps_in : Steps → ℕ
steps_in S14 = 14
steps_in S28 = 28
steps_in S128 = 126

-- stopped, stopped at once, or at a step of a number of steps; the functions and the direction
abbrev pub driven_as : Asked → (functions : ℕ) → (forward : Bool) → Motion
driven_as Stop functions forward = record { functions = functions; kind = 0; step = 0; steps = 0; forward = forward }
driven_as Emergency functions forward = record { functions = functions; kind = 1; step = 0; steps = 0; forward = forward }
driven_as (Step of n) functions forward = record { functions = functions; kind = 2; step = n; steps = steps_in of; forward = forward }

abbrev pub driven : Running → Motion
driven running = driven_as running.motion running.functions running.forward
