-- The states of a locomotive decoder.
use Rattle.std.specs.Prelude.{◌^◌, ◌<◌, true}
use Rattle.dcc_packet.specs.declared.steps.Motion.TheVariants.{Stop}
use Rattle.decoder_node.specs.declared.running.Running.{Running}

-- the initial state, and the state after Reset: stopped, forward, with all functions off
abbrev pub first_running : Running
first_running = record { motion = Stop; forward = true; functions = 0 }

-- a decoder has the functions F0 to F12 and no others
abbrev pub IsAble : Running → Type 0
IsAble running = running.functions < 2 ^ 13
