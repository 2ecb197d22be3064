-- The effect of packets on a locomotive decoder. Where the standard leaves a rule open, (own) marks
-- this project's profile. Bit k of `functions` is Fk.
use Rattle.std.specs.Prelude.{ℕ, ◌+◌, ◌*◌, ◌/◌, ◌%◌, ◌==◌, Bool, false, not, if◌then◌else◌, List, fold}
use Rattle.dcc_packet.specs.declared.address.Address.{Address}
use Rattle.dcc_packet.specs.declared.address.Address.TheVariants.{Short, Long}
use Rattle.dcc_packet.specs.declared.instr.Instr.{Instr}
use Rattle.dcc_packet.specs.declared.instr.Instr.TheVariants.{Idle, Reset, StopAll, Speed, Speed128, GroupOne, GroupTwo, GroupThree, Accessory}
use Rattle.dcc_packet.specs.declared.steps.Steps.TheVariants.{S14, S28, S128}
use Rattle.dcc_packet.specs.declared.steps.Motion.TheVariants.{Stop, Emergency}
use Rattle.dcc_packet.specs.SpeedNumbers.{motion_of_number, number_28}
use Rattle.decoder_cv.specs.Settings.{Settings}
use Rattle.decoder_node.specs.declared.running.Running.{Running}
use Rattle.decoder_node.specs.Bits.{with_bits}
use Rattle.decoder_node.specs.Heard.{obeying}
use Rattle.decoder_node.specs.Running.{first_running}

-- The forward of a decoder is the D of the packet, inverted if CV29 bit 0 is set.
abbrev pub own_forward : Settings → Bool → Bool
own_forward cv d = if cv.reversed then not d else d

-- the address is that of the decoder
abbrev pub is_own : Address → Address → Bool
is_own (Short own) (Short number) = own == number
is_own (Long own) (Long number) = own == number
is_own (Short own) (Long number) = false
is_own (Long own) (Short number) = false

-- A speed packet of one byte, whose five bits are C and SSSS: with 14 steps SSSS is the speed and C
-- is F0, with 28 steps the speed is SSSSC. D is obeyed at every speed, also at a stop (own).
abbrev pub driven : Settings → Running → Bool → ℕ → Running
driven cv running d low =
    if cv.fourteen
    then record { motion = motion_of_number S14 (low % 16); forward = own_forward cv d; functions = with_bits running.functions 0 1 (low / 16 % 2) }
    else record { motion = motion_of_number S28 (number_28 low); forward = own_forward cv d; functions = running.functions }

-- A packet of function group one: bit 4 is F0 where the decoder has 28 or 128 steps, and else means
-- nothing.
abbrev pub lit : Settings → ℕ → ℕ → ℕ
lit cv functions bits =
    let others = with_bits functions 1 4 (bits % 16) in
    if cv.fourteen then others else with_bits others 0 1 (bits / 16 % 2)

-- The effect of one instruction. Group three holds the last functions of a decoder, so no functions
-- are above it. A broadcast stop leaves the direction (own). Speeds of 128 steps are obeyed
-- whatever the mode (own). An instruction for another address, or for accessory decoders, has no
-- effect.
abbrev pub obeyed : Settings → Running → Instr → Running
obeyed cv running Idle = running
obeyed cv running Reset = first_running
obeyed cv running (StopAll emergency) = record running { motion = if emergency then Emergency else Stop }
obeyed cv running (Speed address d low) = if is_own cv.address address then driven cv running d low else running
obeyed cv running (Speed128 address d s) =
    if is_own cv.address address then record running { motion = motion_of_number S128 s; forward = own_forward cv d } else running
obeyed cv running (GroupOne address bits) =
    if is_own cv.address address then record running { functions = lit cv running.functions bits } else running
obeyed cv running (GroupTwo address bits) =
    if is_own cv.address address then record running { functions = with_bits running.functions 5 4 (bits % 16) } else running
obeyed cv running (GroupThree address bits) =
    if is_own cv.address address then record running { functions = 512 * (bits % 16) + running.functions % 512 } else running
obeyed cv running (Accessory number pair closed on) = running

-- the effect of one packet
unfoldable pub obey : Settings → Running → List ℕ → Running
obey cv running packet = obeying (obeyed cv) running packet

-- the effect of packets, one after another
abbrev pub runs : Settings → Running → List (List ℕ) → Running
runs cv running packets = fold (obey cv) running packets
