-- The packets that a command station sends.
use Rattle.std.specs.Prelude.{ℕ, ◌+◌, ◌-◌, ◌*◌, ◌/◌, ◌%◌, Bool, List, [], ◌∷◌}
use Rattle.dcc_packet.specs.declared.address.Address.{Address}
use Rattle.dcc_packet.specs.declared.steps.Steps.{Steps}
use Rattle.dcc_packet.specs.declared.steps.Steps.TheVariants.{S14, S28, S128}
use Rattle.dcc_packet.specs.declared.steps.Motion.{Motion}
use Rattle.dcc_packet.specs.declared.steps.Motion.TheVariants.{Stop, Emergency, Step}
use Rattle.dcc_packet.specs.Form.{bit, with_check, to_decoder}

-- 0 stop, a number for emergency stop, and step n so far from n
abbrev pub code_by : (emergency offset : ℕ) → Motion → ℕ
code_by emergency offset Stop = 0
code_by emergency offset Emergency = emergency
code_by emergency offset (Step _ n) = n + offset

-- S-9.2.1, 2.3.2 with 128 steps and 2.3.3 with 14: 1 emergency stop, n + 1 step n
abbrev pub code_of : Motion → ℕ
code_of = code_by 1 1

-- S-9.2.1, 2.3.3 with 28 steps: SSSSC is 2 emergency stop, n + 3 step n
abbrev pub code_28_of : Motion → ℕ
code_28_of = code_by 2 3

-- CSSSS: with 14 steps C is F0; with 28 steps it is the lowest bit of SSSSC
abbrev pub low_14 : Motion → Bool → ℕ
low_14 motion f0 = 16 * bit f0 + code_of motion

abbrev pub low_28 : Motion → ℕ
low_28 motion = 16 * (code_28_of motion % 2) + code_28_of motion / 2

-- speed and direction, forward as 1
abbrev pub speed_bytes : Address → Steps → Motion → Bool → Bool → List ℕ
speed_bytes address S14 motion forward f0 = to_decoder address ((64 + 32 * bit forward + low_14 motion f0) ∷ [])
speed_bytes address S28 motion forward f0 = to_decoder address ((64 + 32 * bit forward + low_28 motion) ∷ [])
speed_bytes address S128 motion forward f0 = to_decoder address (0x3F ∷ (128 * bit forward + code_of motion) ∷ [])

-- F0, F4, F3, F2, F1, where bit k of the functions is Fk
abbrev pub group_one_bits : ℕ → ℕ
group_one_bits functions = 16 * (functions % 2) + functions / 2 % 16

abbrev pub group_one_bytes : Address → ℕ → List ℕ
group_one_bytes address functions = to_decoder address ((128 + group_one_bits functions) ∷ [])

-- F8, F7, F6, F5
abbrev pub group_two_bits : ℕ → ℕ
group_two_bits functions = functions / 32 % 16

abbrev pub group_two_bytes : Address → ℕ → List ℕ
group_two_bytes address functions = to_decoder address ((176 + group_two_bits functions) ∷ [])

-- F12, F11, F10, F9
abbrev pub group_three_bits : ℕ → ℕ
group_three_bits functions = functions / 512 % 16

abbrev pub group_three_bytes : Address → ℕ → List ℕ
group_three_bytes address functions = to_decoder address ((160 + group_three_bits functions) ∷ [])

-- four switches to a module, switch 0 the first of module 1 (own)
abbrev pub module_of : ℕ → ℕ
module_of number = number / 4 + 1

-- the last switch that a packet can name: four to each of the modules 1 to 510, from switch 0 on
abbrev pub last_switch : ℕ
last_switch = 2039

-- the output of a switch, closed or thrown, on or off
abbrev pub accessory_bytes : ℕ → Bool → Bool → List ℕ
accessory_bytes number closed on =
    with_check ((128 + module_of number % 64) ∷ (128 + 16 * (7 - module_of number / 64) + 8 * bit on + 2 * (number % 4) + bit closed) ∷ [])

-- S-9.2, idle packet
abbrev pub idle_bytes : List ℕ
idle_bytes = 0xFF ∷ 0x00 ∷ 0xFF ∷ []

-- S-9.2, broadcast stop packet with D 0, C 1 and S 1
abbrev pub stop_all_bytes : List ℕ
stop_all_bytes = 0x00 ∷ 0x51 ∷ 0x51 ∷ []
