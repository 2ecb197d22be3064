-- A whole task on a track with a decoder of which nothing is known: each packet may be acknowledged or not.
use Rattle.std.specs.Prelude.{ℕ, ◌≡◌, ◌⊎◌, zero, suc, ◌+◌, Bool, true, false, List, [], ◌∷◌, Option, Some, None}
use Rattle.service_mode.specs.declared.instruction.Instruction.{Instruction}
use Rattle.service_mode.specs.declared.instruction.Instruction.TheVariants.{VerifyByte, VerifyBit}
use Rattle.service_mode.specs.declared.packet.ServicePacket.{ServicePacket}
use Rattle.service_mode.specs.declared.packet.ServicePacket.TheVariants.{Reset, Direct}
use Rattle.programmer.specs.declared.load.Load.TheVariants.{Decoder}
use Rattle.programmer.specs.declared.task.Task.{Task}
use Rattle.programmer.specs.declared.task_result.Status.{Status}
use Rattle.programmer.specs.declared.task_result.Status.TheVariants.{Done, NoWriteAcknowledge}
use Rattle.programmer.specs.declared.task_result.TaskResult.{TaskResult}
use Rattle.programmer.specs.declared.task_state.TaskState.{TaskState}
use Rattle.programmer.specs.declared.task_state.Next.{Next}
use Rattle.programmer.specs.declared.task_state.Next.TheVariants.{Continued, Finished}
use Rattle.programmer.specs.Machine.{begun, bit_question, packet_of, next_of}
use Rattle.programmer.specs.Requests.{result_of}

-- the result of a task and the packets before it
pub record TaskEnd : Type 0 where
  pub result : TaskResult
  pub sent : List ServicePacket

abbrev pub with_packet : ServicePacket → Option TaskEnd → Option TaskEnd
with_packet packet None = None
with_packet packet (Some ended) = Some (record { result = ended.result; sent = packet ∷ ended.sent })

abbrev pub end_from : Next → (TaskState → Option TaskEnd) → Option TaskEnd
end_from (Continued state) rest = rest state
end_from (Finished ended) rest = Some (record { result = ended; sent = [] })

-- The rest of a task, if it ends within so many packets. `bits` says of each whether it is acknowledged.
abbrev pub end_of : (packets : ℕ) → TaskState → (bits : ℕ → Bool) → Option TaskEnd
end_of zero state bits = None
end_of (suc packets) state bits =
    with_packet (packet_of state)
    (end_from (next_of state (Decoder (bits 0))) (λ next. end_of packets next (λ i. bits (i + 1))))

-- an instruction as it is sent: three resets, five times the instruction, six resets
abbrev pub sequence : Instruction → List ServicePacket
sequence i =
    Reset ∷ Reset ∷ Reset ∷ Direct i ∷ Direct i ∷ Direct i ∷ Direct i ∷ Direct i
    ∷ Reset ∷ Reset ∷ Reset ∷ Reset ∷ Reset ∷ Reset ∷ []

-- a read asks whether each bit is on, the highest first, and then whether the byte is what was found
abbrev pub read_of : (address value : ℕ) → List Instruction
read_of address value =
    VerifyBit address 7 true ∷ VerifyBit address 6 true ∷ VerifyBit address 5 true ∷ VerifyBit address 4 true
    ∷ VerifyBit address 3 true ∷ VerifyBit address 2 true ∷ VerifyBit address 1 true ∷ VerifyBit address 0 true
    ∷ VerifyByte address value ∷ []

-- a read of a bit asks whether it is on, and if that is not acknowledged, whether it is off
abbrev pub on_question : Task → List Instruction
on_question task = bit_question task.address task.value true ∷ []

abbrev pub off_question : Task → List Instruction
off_question task = bit_question task.address task.value true ∷ bit_question task.address task.value false ∷ []

abbrev pub IsBitQuestion : Task → List Instruction → Type 0
IsBitQuestion task questions = (questions ≡ on_question task) ⊎ (questions ≡ off_question task)

-- a write sends this instruction once, and ends with the value that it writes
abbrev pub WritesBy : Instruction → Task → (bits : ℕ → Bool) → Type 0
WritesBy instruction task bits =
    (status : Status) × ((status ≡ Done) ⊎ (status ≡ NoWriteAcknowledge))
    × (end_of 126 (begun task) bits
    ≡ Some (record { result = result_of task status task.value; sent = sequence instruction }))
