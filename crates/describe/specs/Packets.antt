-- Explanations of DCC packets in plain words (S-9.2 and S-9.2.1).
use Rattle.std.specs.Prelude.{ℕ, ◌+◌, ◌-◌, ◌*◌, ◌/◌, ◌%◌, ◌==◌, ◌&&◌, Bool, nat_lt, nat_le, if◌then◌else◌, List, [], ◌∷◌, ◌++◌, Option, Some, None, codes}
use Rattle.std.specs.Fmt.{decimal}
use Rattle.dcc_packet.specs.declared.address.Address.{Address}
use Rattle.dcc_packet.specs.declared.address.Address.TheVariants.{Short, Long}
use Rattle.dcc_packet.specs.declared.instr.Instr.{Instr}
use Rattle.dcc_packet.specs.declared.instr.Instr.TheVariants.{Idle, Reset, StopAll, Speed, Speed128, GroupOne, GroupTwo, GroupThree, Accessory}
use Rattle.dcc_packet.specs.Packet.{has_packet_length, is_checked}
use Rattle.dcc_packet.specs.Reading.{instruction_of}
use Rattle.describe.specs.declared.packet_rows.TheConstants.{ACCESSORIES as accessories, ADVANCED_OPERATIONS as advanced_operations, CONTROLS as controls, FEATURE_EXPANSIONS as feature_expansions, SPEEDS_AND_FUNCTIONS as speeds_and_functions, VARIABLES as variables}
use Rattle.describe.specs.Fields.{light_and_four}
use Rattle.describe.specs.Pieces.{functions_words}
use Rattle.describe.specs.Rows.{Row, row_text, table_of}

-- 2.1: an address of one byte, or of two
abbrev pub address_words : Address → List ℕ
address_words (Short number) = codes "locomotive " ++ decimal number
address_words (Long number) = codes "locomotive " ++ decimal number ++ codes " (long address)"

-- bit D, 1 is forward
abbrev pub direction_words : Bool → List ℕ
direction_words forward = if forward then codes ", forward" else codes ", reverse"

-- 2.3.2 with 128 steps and 2.3.3 with 14: 0 stop, 1 emergency stop, n + 1 step n
abbrev pub step_words : ℕ → ℕ → List ℕ
step_words code of =
    if code == 0 then codes "stop" else
    (if code == 1 then codes "emergency stop" else codes "step " ++ decimal (code - 1) ++ codes " of " ++ decimal of)

-- 2.3.3 with 28 steps, CSSSS read as SSSSC: 0 and 1 stop, 2 and 3 emergency stop, n + 3 step n
abbrev pub step_28_words : ℕ → List ℕ
step_28_words low =
    let number = 2 * (low % 16) + low / 16 % 2 in
    if nat_lt number 2 then codes "stop" else
    (if nat_lt number 4 then codes "emergency stop" else codes "step " ++ decimal (number - 3) ++ codes " of 28")

-- 2.3.3, CSSSS: with 14 steps C is F0, with 28 it is the lowest bit of the step. Without C a stop
-- is one with both.
abbrev pub both_words : ℕ → List ℕ
both_words low =
    step_words (low % 16) 14
    ++ (if nat_lt 1 low then (if low / 16 % 2 == 1 then codes " and F0, or " else codes ", or ") ++ step_28_words low else [])

abbrev pub group_words : Address → List ℕ → ℕ → ℕ → List ℕ
group_words address label first bits = address_words address ++ codes ": " ++ functions_words label first bits

abbrev pub speed_words : Address → Bool → ℕ → List ℕ
speed_words address forward code = address_words address ++ codes ": " ++ step_words code 128 ++ direction_words forward

abbrev pub low_speed_words : Address → Bool → ℕ → List ℕ
low_speed_words address forward low = address_words address ++ codes ": " ++ both_words low ++ direction_words forward

-- a switch, its direction, and whether its output is switched on or off
unfoldable pub switch_words : ℕ → Bool → Bool → List ℕ
switch_words number closed on =
    codes "turnout " ++ decimal number ++ (if closed then codes " closed" else codes " thrown") ++ (if on then codes ", on" else codes ", off")

-- an instruction that a decoder of this project obeys
abbrev pub instr_words : Instr → List ℕ
instr_words Idle = codes "idle"
instr_words Reset = codes "all decoders: reset"
instr_words (StopAll emergency) = if emergency then codes "all locomotives: emergency stop" else codes "all locomotives: stop"
instr_words (Speed address forward low) = low_speed_words address forward low
instr_words (Speed128 address forward code) = speed_words address forward code
-- 2.3.4: bit 4 is F0, bits 0 to 3 are F1 to F4
instr_words (GroupOne address bits) = group_words address (codes "F0 to F4:") 0 (light_and_four bits)
-- 2.3.5, with S 1 and with S 0
instr_words (GroupTwo address bits) = group_words address (codes "F5 to F8:") 5 bits
instr_words (GroupThree address bits) = group_words address (codes "F9 to F12:") 9 bits
-- 2.4.1: four switches to a decoder, which users count from 1, the first of decoder 1
instr_words (Accessory number pair closed on) = switch_words (4 * (number - 1) + pair + 1) closed on

-- 2.3: the tables of src/packet_rows.rt, by the type of an instruction
unfoldable pub instruction_rows : ℕ → List Row
instruction_rows kind =
    if kind == 0 then table_of controls else
    (if kind == 1 then table_of advanced_operations else
    (if kind == 6 then table_of feature_expansions else
    (if kind == 7 then table_of variables else table_of speeds_and_functions)))

unfoldable pub accessory_rows : List Row
accessory_rows = table_of accessories

-- an instruction to a locomotive that no decoder of this project obeys, by its bytes, the check
-- last: by the table of its type, in bits 7 to 5 of the first byte
unfoldable pub instruction_words : List ℕ → List ℕ
instruction_words (first ∷ second ∷ rest) = row_text (instruction_rows (first / 32)) (first ∷ second ∷ rest)
instruction_words bytes = codes "unknown form"

-- an instruction to accessory decoders that none of this project obeys: by the table
unfoldable pub accessory_words : List ℕ → List ℕ
accessory_words bytes = row_text accessory_rows bytes

unfoldable pub requested_words : Address → List ℕ → List ℕ
requested_words address requested = address_words address ++ codes ": " ++ instruction_words requested

unfoldable pub all_words : List ℕ → List ℕ
all_words requested = codes "all locomotives: " ++ instruction_words requested

-- after a first byte from 192 to 231, the rest of a two-byte address
unfoldable pub long_words : ℕ → List ℕ → List ℕ
long_words high (low ∷ requested) = requested_words (Long ((high - 192) * 256 + low)) requested
long_words high [] = codes "unknown form"

-- 2.1, by the address partitions. The table for accessory decoders has a row for every other first
-- byte.
abbrev pub unread_words : List ℕ → List ℕ
unread_words (first ∷ requested) =
    if first == 0 then all_words requested else
    (if nat_le 1 first && nat_le first 127 then requested_words (Short first) requested else
    (if nat_le 192 first && nat_le first 231 then long_words first requested else accessory_words (first ∷ requested)))
unread_words [] = codes "unknown form"

abbrev pub read_words : Option Instr → List ℕ → List ℕ
read_words (Some instr) bytes = instr_words instr
read_words None bytes = unread_words bytes

-- the explanation of the bytes of a packet, the check last
abbrev pub packet_words : List ℕ → List ℕ
packet_words bytes =
    if has_packet_length bytes then (if is_checked bytes then read_words (instruction_of bytes) bytes else codes "wrong check")
    else codes "wrong length"
