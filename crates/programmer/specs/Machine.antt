-- The machine of the programmer: which packet is sent, and what follows from what is drawn.
use Rattle.std.specs.Prelude.{ℕ, ◌+◌, ◌-◌, ◌*◌, ◌/◌, ◌%◌, ◌==◌, ◌&&◌, ◌||◌, nat_lt, nat_le, not, Bool, true, false, if◌then◌else◌, Option, Some, None}
use Rattle.service_mode.specs.declared.instruction.Instruction.{Instruction}
use Rattle.service_mode.specs.declared.instruction.Instruction.TheVariants.{VerifyByte, WriteByte, VerifyBit, WriteBit}
use Rattle.service_mode.specs.declared.packet.ServicePacket.{ServicePacket}
use Rattle.service_mode.specs.declared.packet.ServicePacket.TheVariants.{Reset, Direct}
use Rattle.service_mode.specs.Spelling.{digit}
use Rattle.programmer.specs.declared.load.Load.{Load}
use Rattle.programmer.specs.declared.load.Load.TheVariants.{Empty, Decoder}
use Rattle.programmer.specs.declared.reply.TaskReply.{TaskReply}
use Rattle.programmer.specs.declared.reply.TaskReply.TheVariants.{Accepted, Busy, NotImplemented, Data}
use Rattle.programmer.specs.declared.slot_request.SlotRequest.{SlotRequest}
use Rattle.programmer.specs.declared.slot_request.SlotRequest.TheVariants.{Read, Abort, Begin}
use Rattle.programmer.specs.declared.task.Task.{Task}
use Rattle.programmer.specs.declared.task_result.Status.{Status}
use Rattle.programmer.specs.declared.task_result.Status.TheVariants.{Done, NoDecoder, NoWriteAcknowledge, NoReadAcknowledge, Aborted}
use Rattle.programmer.specs.declared.task_result.TaskResult.{TaskResult}
use Rattle.programmer.specs.declared.task_state.Phase.{Phase}
use Rattle.programmer.specs.declared.task_state.Phase.TheVariants.{Writing, Reading, WritingBit, ReadingBit}
use Rattle.programmer.specs.declared.task_state.TaskState.{TaskState}
use Rattle.programmer.specs.declared.task_state.Next.{Next}
use Rattle.programmer.specs.declared.task_state.Next.TheVariants.{Continued, Finished}
use Rattle.programmer.specs.Requests.{is_bit, is_byte, is_legal_result, is_task, is_write, result_of}

-- the task under way, if one is, and the result of the last that ended
pub record ProgrammerState : Type 0 where
  pub under_way : Option TaskState
  pub last : TaskResult

-- A read asks for one bit after another, the highest first, whether it is on, and then for the byte.
abbrev pub question : (address left known : ℕ) → Instruction
question address left known =
    if left == 0 then VerifyByte address known else VerifyBit address (left - 1) true

-- In direct mode by bits, bits 0 to 2 of the value are the bit's number and bit 3 is its value, as in
-- 111KDBBB, the data of the instruction (S-9.2.3).
abbrev pub bit_write : (address value : ℕ) → Instruction
bit_write address value = WriteBit address (value % 8) (value / 8 % 2 == 1)

abbrev pub bit_question : (address value : ℕ) → (on : Bool) → Instruction
bit_question address value on = VerifyBit address (value % 8) on

abbrev pub bit_value : (value : ℕ) → (on : Bool) → ℕ
bit_value value on = value / 16 * 16 + 8 * digit on + value % 8

abbrev pub instruction_at : Task → Phase → Instruction
instruction_at task Writing = WriteByte task.address task.value
instruction_at task (Reading left known) = question task.address left known
instruction_at task WritingBit = bit_write task.address task.value
instruction_at task (ReadingBit on) = bit_question task.address task.value on

abbrev pub instruction_of : TaskState → Instruction
instruction_of state = instruction_at state.task state.phase

-- three resets, five times the instruction, six resets
abbrev pub packet_of : TaskState → ServicePacket
packet_of state = if nat_lt 2 state.sent && nat_lt state.sent 8 then Direct (instruction_of state) else Reset

-- an acknowledgment counts from the first packet with the instruction on
abbrev pub is_noticed : TaskState → Bool → Bool
is_noticed state acknowledged = (nat_lt 2 state.sent && acknowledged) || state.acknowledged

-- the start of a sequence
abbrev pub at_sequence : Task → Phase → TaskState
at_sequence task phase = record { task = task; phase = phase; sent = 0; acknowledged = false }

-- the end of a task, done if it was acknowledged
abbrev pub finished : Task → (acknowledged : Bool) → (fault : Status) → (value : ℕ) → Next
finished task acknowledged fault value =
    Finished (result_of task (if acknowledged then Done else fault) value)

-- what comes after a sequence
abbrev pub ended : Task → Phase → (acknowledged : Bool) → Next
ended task Writing acknowledged = finished task acknowledged NoWriteAcknowledge task.value
ended task WritingBit acknowledged = finished task acknowledged NoWriteAcknowledge task.value
ended task (Reading left known) acknowledged =
    if left == 0 then finished task acknowledged NoReadAcknowledge known else
    Continued (at_sequence task (Reading (left - 1) (known % 128 * 2 + digit acknowledged)))
ended task (ReadingBit on) acknowledged =
    if on && not acknowledged then Continued (at_sequence task (ReadingBit false)) else
    finished task acknowledged NoReadAcknowledge (bit_value task.value on)

abbrev pub moved : TaskState → (acknowledged : Bool) → Next
moved state acknowledged =
    if nat_lt state.sent 13 then Continued (record {
      task = state.task;
      phase = state.phase;
      sent = state.sent + 1;
      acknowledged = acknowledged;
    }) else ended state.task state.phase acknowledged

abbrev pub next_of : TaskState → Load → Next
next_of state Empty = Finished (result_of state.task NoDecoder state.task.value)
next_of state (Decoder acknowledged) = moved state (is_noticed state acknowledged)

-- what is always so of a task under way
abbrev pub is_phase : Phase → Bool
is_phase Writing = true
is_phase WritingBit = true
is_phase (ReadingBit on) = true
is_phase (Reading left known) = nat_le left 8 && nat_lt known 256

abbrev pub is_sound : TaskState → Bool
is_sound state = is_task state.task && is_phase state.phase && nat_lt state.sent 14

abbrev pub is_sound_some : Option TaskState → Bool
is_sound_some None = true
is_sound_some (Some state) = is_sound state

abbrev pub is_sound_next : Next → Bool
is_sound_next (Continued state) = is_sound state
is_sound_next (Finished ended) = is_legal_result ended

abbrev pub is_sound_state : ProgrammerState → Bool
is_sound_state p = is_sound_some p.under_way && is_legal_result p.last

-- the task that a request begins
abbrev pub phase_of : Task → Phase
phase_of task =
    if is_bit task then (if is_write task then WritingBit else ReadingBit true) else
    (if is_write task then Writing else Reading 8 0)

abbrev pub begun : Task → TaskState
begun task = at_sequence task (phase_of task)

-- no task has been requested
abbrev pub idle : ProgrammerState
idle = record {
  under_way = None;
  last = result_of (record { command = 0; hopsa = 0; lopsa = 0; trk = 0; address = 0; value = 0 }) Done 0;
}

-- The data of the slot: of the task under way, with bit 3 of TRK, programming track busy; or of the
-- last that ended.
abbrev pub busy_data : Task → TaskResult
busy_data task = result_of (record task { trk = task.trk / 16 * 16 + 8 + task.trk % 8 }) Done task.value

abbrev pub data_from : Option TaskState → TaskResult → TaskResult
data_from None last = last
data_from (Some state) last = busy_data state.task

abbrev pub data_of : ProgrammerState → TaskResult
data_of p = data_from p.under_way p.last

-- the task under way is ended
abbrev pub aborted_from : Option TaskState → TaskResult → TaskResult
aborted_from None last = last
aborted_from (Some state) last = result_of state.task Aborted state.task.value

abbrev pub with_aborted : ProgrammerState → ProgrammerState
with_aborted p = record { under_way = None; last = aborted_from p.under_way p.last }

-- the reply to a task, and the state after it
abbrev pub reply_while : Option TaskState → Task → TaskReply
reply_while (Some state) task = Busy
reply_while None task = if is_byte task || is_bit task then Accepted else NotImplemented

abbrev pub reply_to : ProgrammerState → Task → TaskReply
reply_to p task = reply_while p.under_way task

abbrev pub under_way_after : Option TaskState → Task → Option TaskState
under_way_after (Some state) task = Some state
under_way_after None task = if is_byte task || is_bit task then Some (begun task) else None

abbrev pub after_begin : ProgrammerState → Task → ProgrammerState
after_begin p task = record { under_way = under_way_after p.under_way task; last = p.last }

-- the same for messages: one that is not for slot 124 gets no reply and changes nothing
abbrev pub reply_of : ProgrammerState → Option SlotRequest → Option TaskReply
reply_of p None = None
reply_of p (Some Read) = Some (Data (data_of p))
reply_of p (Some Abort) = Some (Data (data_of (with_aborted p)))
reply_of p (Some (Begin task)) = Some (reply_to p task)

abbrev pub after_request : ProgrammerState → Option SlotRequest → ProgrammerState
after_request p None = p
after_request p (Some Read) = p
after_request p (Some Abort) = with_aborted p
after_request p (Some (Begin task)) = after_begin p task

-- the packet that is sent next, if a task is under way
abbrev pub next_packet : Option TaskState → Option ServicePacket
next_packet None = None
next_packet (Some state) = Some (packet_of state)

-- what follows from what is drawn
abbrev pub after_next : TaskResult → Next → ProgrammerState
after_next last (Continued state) = record { under_way = Some state; last = last }
after_next last (Finished ended) = record { under_way = None; last = ended }

abbrev pub result_in : Next → Option TaskResult
result_in (Continued state) = None
result_in (Finished ended) = Some ended

abbrev pub after_load : Option TaskState → TaskResult → Load → ProgrammerState
after_load None last load = record { under_way = None; last = last }
after_load (Some state) last load = after_next last (next_of state load)

abbrev pub after_packet : ProgrammerState → Load → ProgrammerState
after_packet p load = after_load p.under_way p.last load

abbrev pub result_after : Option TaskState → Load → Option TaskResult
result_after None load = None
result_after (Some state) load = result_in (next_of state load)

-- the most packets that are left: 14 a sequence
abbrev pub left_of : Phase → (sent : ℕ) → ℕ
left_of Writing sent = 14 - sent
left_of WritingBit sent = 14 - sent
left_of (ReadingBit on) sent = 14 * digit on + (14 - sent)
left_of (Reading left known) sent = 14 * left + (14 - sent)

abbrev pub left_after : Next → ℕ
left_after (Continued state) = left_of state.phase state.sent
left_after (Finished ended) = 0

abbrev pub left_in : Option TaskState → ℕ
left_in None = 0
left_in (Some state) = left_of state.phase state.sent

abbrev pub packets_left : ProgrammerState → ℕ
packets_left p = left_in p.under_way
