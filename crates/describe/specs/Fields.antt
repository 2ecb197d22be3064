-- Fields in the bytes of a message or a packet. Positions count from 0.
use Rattle.std.specs.Prelude.{ℕ, ◌+◌, ◌-◌, ◌*◌, ◌/◌, ◌%◌, ◌^◌, nat_lt, if◌then◌else◌, List, length, slice_index}
use Rattle.describe.specs.declared.fields.Field.{Field}
use Rattle.describe.specs.declared.fields.Field.TheVariants.{Length, Byte, Bit, Top, LowTwo, LowThree, LowFour, LowFive, LowSeven, Acknowledged, Switch, Sensor, LightAndFour, PeerDestination, PeerByte, ClockHour, ClockMinute, Task, MainTask, TaskVariable, TaskValue, TaskAddress, Variable, Step, BinaryState, Decoder, Output}

-- the bits of a byte from this one on
abbrev pub top_of : ℕ → ℕ → ℕ
top_of byte bit = byte / 2 ^ (bit % 8)

-- LocoNet, OPC_SW_REQ, OPC_SW_REP: SW1 is A6 to A0, bits 3 to 0 of SW2 are A10 to A7. Users count
-- from 1.
abbrev pub switch_of : List ℕ → ℕ
switch_of m = slice_index m 2 % 16 * 128 + slice_index m 1 + 1

-- LocoNet, OPC_INPUT_REP: bit 5 of IN2 is the lowest bit of the sensor's number, below A0. Layout
-- software counts from 1.
abbrev pub sensor_of : List ℕ → ℕ
sensor_of m = 2 * (slice_index m 2 % 16 * 128 + slice_index m 1) + slice_index m 2 / 32 % 2 + 1

-- LocoNet, DIRF: F0 is bit 4, F1 to F4 are bits 0 to 3. Here bit k is Fk.
abbrev pub light_and_four : ℕ → ℕ
light_and_four dirf = dirf / 16 % 2 + 2 * (dirf % 16)

-- LocoNet, OPC_PEER_XFER, E5 10 SRC DSTL DSTH PXCT1 D1 D2 D3 D4 PXCT2 D5 D6 D7 D8: bits 0 to 3 of
-- PXCT1 are bit 7 of D1 to D4, and those of PXCT2 are bit 7 of D5 to D8
abbrev pub peer_byte : List ℕ → ℕ → ℕ
peer_byte m number =
    let first = if nat_lt number 4 then 5 else 10 in
    top_of (slice_index m first) (number % 4) % 2 * 128 + slice_index m (first + 1 + number % 4)

-- LocoNet, fast clock: a byte holds 256 less hours or less minutes, without its bit 7
abbrev pub clock_of : ℕ → ℕ
clock_of byte = (128 - byte % 128) % 128

-- S-9.2.1, configuration variable access, 1110CCVV VVVVVVVV: CV1 is 0
abbrev pub variable_of : ℕ → ℕ → ℕ
variable_of high low = high % 4 * 256 + low + 1

-- S-9.2.1, 2.4: 10AAAAAA .AAA...., the high three bits complemented
abbrev pub decoder_of : List ℕ → ℕ
decoder_of m = slice_index m 0 % 64 + 64 * (7 - slice_index m 1 / 16 % 8)

-- S-9.2.1, 2.4: bits 2 and 1 of the second byte are the pair of outputs, four to a decoder. Users
-- count from 1, the first of decoder 1.
abbrev pub output_of : List ℕ → ℕ
output_of m = (4 * decoder_of m + slice_index m 1 / 2 % 4 + 1) - 4

-- LocoNet, fast clock, EF 0E 7B CLK_RATE FRAC_MINSL FRAC_MINSH 256-MINS TRK 256-HRS DAYS CLK_CNTRL
-- ID1 ID2, and programming track, EF 0E 7C PCMD PSTAT HOPSA LOPSA TRK CVH CVL DATA7
abbrev pub slot_value : Field → List ℕ → ℕ
slot_value ClockHour m = clock_of (slice_index m 8)
slot_value ClockMinute m = clock_of (slice_index m 6)
-- from bit 2 on: operations mode, TY0, TY1, byte mode
slot_value Task m = slice_index m 3 / 4 % 16
slot_value MainTask m = slice_index m 3 / 8 % 2 + 2 * (slice_index m 3 / 32 % 2)
-- CVH is 0 0 CV9 CV8 0 0 D7 CV7, CVL is CV6 to CV0
slot_value TaskVariable m = slice_index m 8 / 16 % 4 * 256 + slice_index m 8 % 2 * 128 + slice_index m 9 + 1
slot_value TaskValue m = slice_index m 8 / 2 % 2 * 128 + slice_index m 10
slot_value TaskAddress m = slice_index m 5 * 128 + slice_index m 6
slot_value other m = 0

abbrev pub joined_value : Field → List ℕ → ℕ
-- LocoNet, OPC_LONG_ACK: the opcode without its bit 7
joined_value Acknowledged m = slice_index m 1 + 128
joined_value Switch m = switch_of m
joined_value Sensor m = sensor_of m
joined_value (LightAndFour at) m = light_and_four (slice_index m at)
joined_value PeerDestination m = slice_index m 4 * 128 + slice_index m 3
joined_value (PeerByte number) m = peer_byte m number
joined_value (Variable at) m = variable_of (slice_index m at) (slice_index m (at + 1))
-- S-9.2.1, 128 speed steps: 0 stops, 1 stops at once, n + 1 is step n
joined_value (Step at) m = slice_index m at % 128 - 1
-- S-9.2.1, binary state control, long form: 11000000 DLLLLLLL HHHHHHHH
joined_value BinaryState m = slice_index m 1 % 128 + 128 * slice_index m 2
joined_value Decoder m = decoder_of m
joined_value Output m = output_of m
joined_value other m = slot_value other m

-- the number in a field
abbrev pub value_of : Field → List ℕ → ℕ
value_of Length m = length m
value_of (Byte at) m = slice_index m at
value_of (Bit at bit) m = top_of (slice_index m at) bit % 2
value_of (Top at bit) m = top_of (slice_index m at) bit
value_of (LowTwo at) m = slice_index m at % 4
value_of (LowThree at) m = slice_index m at % 8
value_of (LowFour at) m = slice_index m at % 16
value_of (LowFive at) m = slice_index m at % 32
value_of (LowSeven at) m = slice_index m at % 128
value_of other m = joined_value other m
