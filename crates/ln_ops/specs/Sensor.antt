-- What sensors report on a LocoNet line (LocoNet Personal Use Edition 1.0, OPC_INPUT_REP).
use Rattle.std.specs.Prelude.{ℕ, ◌+◌, ◌-◌, ◌*◌, ◌/◌, ◌%◌, ◌==◌, ◌&&◌, ◌++◌, Bool, false, nat_le, if◌then◌else◌, List, [], ◌∷◌, Option, Some, None}
use Rattle.ln_frame.specs.Message.{check_of}
use Rattle.ln_ops.specs.declared.sensor.SensorReport.{SensorReport}

-- a sensor is one of 1 to 4096
abbrev pub is_sensor : ℕ → Bool
is_sensor sensor = nat_le 1 sensor && nat_le sensor 4096

-- IN1 has bits 7 to 1 of a sensor's address, which is one less than its number
abbrev pub in1 : (sensor : ℕ) → ℕ
in1 sensor = (sensor - 1) / 2 % 128

-- IN2 has control bit 6, bit 0 of the address as bit 5, the level as bit 4, and bits 11 to 8 of the
-- address as bits 3 to 0
abbrev pub in2 : (sensor : ℕ) → (occupied : Bool) → ℕ
in2 sensor occupied =
    64 + (sensor - 1) % 2 * 32 + (if occupied then 1 else 0) * 16 + (sensor - 1) / 256 % 16

abbrev pub report_body : (sensor : ℕ) → (occupied : Bool) → List ℕ
report_body sensor occupied = 0xB2 ∷ in1 sensor ∷ in2 sensor occupied ∷ []

-- the message of a report
abbrev pub report_bytes : (sensor : ℕ) → (occupied : Bool) → List ℕ
report_bytes sensor occupied =
    report_body sensor occupied ++ check_of (report_body sensor occupied) ∷ []

-- the report of a message, as layout software reads it
abbrev pub report_of : List ℕ → Option SensorReport
report_of (opcode ∷ low ∷ high ∷ check ∷ []) =
    if opcode == 0xB2 then Some (record {
      sensor = 1 + high % 16 * 256 + low * 2 + high / 32 % 2;
      occupied = high / 16 % 2 == 1;
    }) else None
report_of other = None

-- OPC_SW_REQ that asks one of the turnouts 1017 to 1020 to turn off an output: the eight requests by
-- which layout software asks all sensors to report. Bit 6 of SW2 has no meaning.
abbrev pub is_interrogation : List ℕ → Bool
is_interrogation (opcode ∷ sw1 ∷ sw2 ∷ check ∷ []) = opcode == 0xB0 && sw1 / 4 == 0x1E && sw2 % 32 == 0x07
is_interrogation other = false

-- the first of them: the closed output of turnout 1017
abbrev pub begins_interrogation : List ℕ → Bool
begins_interrogation (opcode ∷ sw1 ∷ sw2 ∷ check ∷ []) = opcode == 0xB0 && sw1 == 0x78 && sw2 % 64 == 0x27
begins_interrogation other = false
