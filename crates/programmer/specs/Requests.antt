-- Messages for slot 124, the programmer's (LocoNet Personal Use Edition 1.0, programmer task start and
-- final reply).
use Rattle.std.specs.Prelude.{ℕ, ◌+◌, ◌*◌, ◌/◌, ◌%◌, ◌==◌, ◌&&◌, ◌||◌, not, nat_lt, Bool, true, if◌then◌else◌, List, [], ◌∷◌, ◌++◌, length, Option, Some, None, slice_index}
use Rattle.ln_frame.specs.Message.{check_of}
use Rattle.programmer.specs.declared.task.Task.{Task}
use Rattle.programmer.specs.declared.slot_request.SlotRequest.{SlotRequest}
use Rattle.programmer.specs.declared.slot_request.SlotRequest.TheVariants.{Read, Abort, Begin}
use Rattle.programmer.specs.declared.task_result.Status.{Status}
use Rattle.programmer.specs.declared.task_result.Status.TheVariants.{Done, NoDecoder, NoWriteAcknowledge, NoReadAcknowledge, Aborted}
use Rattle.programmer.specs.declared.task_result.TaskResult.{TaskResult}

-- OPC_WR_SL_DATA of slot 124: EF 0E 7C PCMD 00 HOPSA LOPSA TRK CVH CVL DATA7 00 00 CHK
abbrev pub is_task_message : List ℕ → Bool
is_task_message bytes = length bytes == 14 && slice_index bytes 0 == 0xEF && slice_index bytes 2 == 0x7C

-- OPC_RQ_SL_DATA of slot 124: BB 7C 00 CHK
abbrev pub is_slot_read : List ℕ → Bool
is_slot_read bytes = slice_index bytes 0 == 0xBB && slice_index bytes 1 == 0x7C

abbrev pub is_for_programmer : List ℕ → Bool
is_for_programmer bytes = is_task_message bytes || is_slot_read bytes

-- PCMD 0 ends the task under way
abbrev pub is_abort : List ℕ → Bool
is_abort bytes = is_task_message bytes && slice_index bytes 3 == 0

-- any other begins one
abbrev pub is_start : List ℕ → Bool
is_start bytes = is_task_message bytes && not (slice_index bytes 3 == 0)

-- The address is one less than the number of the variable. CVH has its bits 9 and 8 as bits 5 and 4,
-- and its bit 7 as bit 0; CVL has the low seven. Bit 1 of CVH is the top bit of the value, and DATA7
-- has the other seven.
abbrev pub address_of : (cvh cvl : ℕ) → ℕ
address_of cvh cvl = cvh / 16 % 4 * 256 + cvh % 2 * 128 + cvl

abbrev pub value_of : (cvh data7 : ℕ) → ℕ
value_of cvh data7 = cvh / 2 % 2 * 128 + data7

abbrev pub task_of : List ℕ → Task
task_of bytes = record {
  command = slice_index bytes 3;
  hopsa = slice_index bytes 5;
  lopsa = slice_index bytes 6;
  trk = slice_index bytes 7;
  address = address_of (slice_index bytes 8) (slice_index bytes 9);
  value = value_of (slice_index bytes 8) (slice_index bytes 10);
}

abbrev pub request_of : List ℕ → SlotRequest
request_of bytes = if slice_index bytes 3 == 0 then Abort else Begin (task_of bytes)

-- none if the message is not for slot 124
abbrev pub request_in : List ℕ → Option SlotRequest
request_in bytes =
    if is_task_message bytes then Some (request_of bytes) else
    (if is_slot_read bytes then Some Read else None)

-- PCMD: bit 6 write, bit 5 bytes and not bits, bits 4 and 3 the mode, 01 for direct, bit 2 on the main
-- track; bits 1 and 0 have no effect
abbrev pub is_byte : Task → Bool
is_byte task = task.command / 4 % 16 == 10

abbrev pub is_bit : Task → Bool
is_bit task = task.command / 4 % 16 == 2

abbrev pub is_write : Task → Bool
is_write task = task.command / 64 == 1

-- what a task of a message is
abbrev pub is_task : Task → Bool
is_task task =
    nat_lt task.command 128 && nat_lt task.hopsa 128 && nat_lt task.lopsa 128 && nat_lt task.trk 128
    && nat_lt task.address 1024 && nat_lt task.value 256

abbrev pub is_legal_request : SlotRequest → Bool
is_legal_request Read = true
is_legal_request Abort = true
is_legal_request (Begin task) = is_task task

-- PSTAT: bit 0 no decoder, bit 1 no acknowledgment of a write, bit 2 none of a read, bit 3 ended by a
-- client
abbrev pub pstat : Status → ℕ
pstat Done = 0
pstat NoDecoder = 1
pstat NoWriteAcknowledge = 2
pstat NoReadAcknowledge = 4
pstat Aborted = 8

abbrev pub result_of : Task → Status → (value : ℕ) → TaskResult
result_of task status value = record { task = task; status = status; value = value }

abbrev pub is_legal_result : TaskResult → Bool
is_legal_result ended = is_task ended.task && nat_lt ended.value 256

-- with the check behind them
abbrev pub sealed : List ℕ → List ℕ
sealed body = body ++ check_of body ∷ []

-- OPC_SL_RD_DATA of slot 124: E7 0E 7C PCMD PSTAT HOPSA LOPSA TRK CVH CVL DATA7 00 00 CHK
abbrev pub data_bytes : Task → (status value : ℕ) → List ℕ
data_bytes task status value = sealed (
    0xE7 ∷ 0x0E ∷ 0x7C ∷ task.command ∷ status ∷ task.hopsa ∷ task.lopsa ∷ task.trk
    ∷ (task.address / 256 * 16 + value / 128 * 2 + task.address / 128 % 2) ∷ (task.address % 128) ∷ (value % 128) ∷ 0 ∷ 0 ∷ [])

abbrev pub result_bytes : TaskResult → List ℕ
result_bytes ended = data_bytes ended.task (pstat ended.status) ended.value
