-- LocoNet messages, for C: a body and its check byte (LocoNet Personal Use Edition 1.0, message
-- format and opcodes).
use Rattle.std.specs.Prelude.{ℕ, ◌≡◌, ◌+◌, ◌-◌, ◌*◌, ◌/◌, ◌%◌, ◌++◌, Bool, true, false, if◌then◌else◌, List, [], ◌∷◌, length}
use Rattle.ln_frame.specs.Message.{are_data, check_of}
use Rattle.ln_ops.specs.Message.{op_of}
use Rattle.ln_ops.specs.declared.op.Op.{Op}
use Rattle.station_c.specs.Answer.{padded}
use Rattle.station_c.specs.declared.message.Message.{Message}

-- the bytes of a message: its body, and the check byte
abbrev pub sealed : (body : List ℕ) → List ℕ
sealed body = body ++ check_of body ∷ []

-- the message with this body
abbrev pub message_with : (body : List ℕ) → Message
message_with body = record { size = length body + 1; bytes = padded (sealed body) }

-- the message with this body, which requests this
abbrev pub Requests : (body : List ℕ) → Op → Message → Type 0
Requests body op message = (message ≡ message_with body) × (op_of (sealed body) ≡ op)

-- The message with this body, which requests this, is written if the arguments are valid. Otherwise the old one stays.
pub record Writes (valid : Bool) (body : List ℕ) (op : Op) (written : Bool) (old new : Message) : Type 0 where
  pub done : written ≡ valid
  pub message : written ≡ true → Requests body op new
  pub untouched : written ≡ false → new ≡ old

-- the same for an opcode and bytes, which are valid below 128
abbrev pub WritesData : (opcode : ℕ) → (bytes : List ℕ) → Op → (written : Bool) → (old new : Message) → Type 0
WritesData opcode bytes op written old new = Writes (are_data bytes) (opcode ∷ bytes) op written old new

-- OPC_SW_REQ: SW1 has bits 6 to 0 of a turnout's address, which is one less than its number
abbrev pub sw1 : (turnout : ℕ) → ℕ
sw1 turnout = (turnout - 1) % 128

-- SW2 has DIR, 1 for closed, as bit 5, ON as bit 4, and bits 10 to 7 of the address as bits 3 to 0
abbrev pub sw2 : (turnout : ℕ) → (closed on : Bool) → ℕ
sw2 turnout closed on =
    (if closed then 1 else 0) * 32 + (if on then 1 else 0) * 16 + (turnout - 1) / 128
