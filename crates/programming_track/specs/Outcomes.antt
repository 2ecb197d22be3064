-- What tasks come to.
use Rattle.std.specs.Prelude.{ℕ, ◌/◌, ◌%◌, ◌==◌, ◌&&◌, ◌||◌, not, Bool, true, false, if◌then◌else◌, List, [], ◌∷◌, Some, None, slice_index, slice_set}
use Rattle.std.specs.Int.{bit_at}
use Rattle.std.specs.List.{flat_map}
use Rattle.std.specs.Str.{bytes_eq}
use Rattle.service_mode.specs.declared.instruction.Instruction.TheVariants.{WriteByte}
use Rattle.service_mode.specs.declared.packet.ServicePacket.{ServicePacket}
use Rattle.service_mode.specs.declared.packet.ServicePacket.TheVariants.{Reset}
use Rattle.cv_memory.specs.declared.cv_change.CvChange.{CvChange}
use Rattle.cv_memory.specs.declared.cv_change.CvChange.TheVariants as change
use Rattle.cv_memory.specs.Hearing.{CvState, with_bit}
use Rattle.programmer.specs.declared.task.Task.{Task}
use Rattle.programmer.specs.declared.task_result.TaskResult.{TaskResult}
use Rattle.programmer.specs.declared.task_result.Status.TheVariants.{Done, NoDecoder, NoReadAcknowledge, NoWriteAcknowledge}
use Rattle.programmer.specs.Machine.{bit_value, bit_write}
use Rattle.programmer.specs.Requests.{is_bit, is_byte, is_start, is_write, result_of, task_of}
use Rattle.programmer.specs.Whole.{off_question, on_question, read_of, sequence}
use Rattle.programming_track.specs.declared.programming_track.ProgrammingTrack.{ProgrammingTrack}
use Rattle.programming_track.specs.Tasks.{TaskRun}
use Rattle.programming_track.specs.Track.{waiting}

-- a message that begins a task on a byte, or on a bit
abbrev pub begins_byte : List ℕ → Bool
begins_byte bytes = is_start bytes && is_byte (task_of bytes)

abbrev pub begins_bit : List ℕ → Bool
begins_bit bytes = is_start bytes && is_bit (task_of bytes)

abbrev pub begins_task : List ℕ → Bool
begins_task bytes = begins_byte bytes || begins_bit bytes

-- a read, or a write
abbrev pub begins_read : List ℕ → Bool
begins_read bytes = begins_byte bytes && not (is_write (task_of bytes))

abbrev pub begins_write : List ℕ → Bool
begins_write bytes = begins_byte bytes && is_write (task_of bytes)

abbrev pub begins_bit_read : List ℕ → Bool
begins_bit_read bytes = begins_bit bytes && not (is_write (task_of bytes))

abbrev pub begins_bit_write : List ℕ → Bool
begins_bit_write bytes = begins_bit bytes && is_write (task_of bytes)

-- a track on which no task is under way, with a decoder or with none
abbrev pub with_decoder : CvState → TaskResult → ProgrammingTrack
with_decoder d last = waiting None last false (Some d)

abbrev pub without_decoder : TaskResult → ProgrammingTrack
without_decoder last = waiting None last false None

-- one on which acknowledgments fail
abbrev pub with_failures : CvState → TaskResult → ProgrammingTrack
with_failures d last = waiting None last true (Some d)

-- the decoder with these variables, in service mode, after reset packets
abbrev pub after_reset : CvState → (values : List ℕ) → CvState
after_reset d values = record { values = values; filed = d.filed; service = true; last = None }

-- a run after which the decoder has these variables
abbrev pub run_with : TaskResult → List ServicePacket → List CvChange → CvState → (values : List ℕ) → TaskRun
run_with ended sent changes d values =
    record { result = ended; sent = sent; changes = changes; decoder = Some (after_reset d values) }

-- one that changes none
abbrev pub run_that_keeps : TaskResult → List ServicePacket → CvState → TaskRun
run_that_keeps ended sent d = run_with ended sent [] d d.values

-- One that stores a value in the task's variable. That is a change if it has another value then.
abbrev pub change_to : (address before after : ℕ) → List CvChange
change_to address before after = if before == after then [] else change.Stored address after ∷ []

abbrev pub stored_by : Task → CvState → (value : ℕ) → List ℕ
stored_by task d value = slice_set d.values task.address value

abbrev pub run_that_stores : TaskResult → List ServicePacket → Task → CvState → (value : ℕ) → TaskRun
run_that_stores ended sent task d value =
    run_with ended sent (change_to task.address (slice_index d.values task.address) (slice_index (stored_by task d value) task.address)) d (stored_by task d value)

-- a byte is read
abbrev pub held : Task → CvState → ℕ
held task d = slice_index d.values task.address

abbrev pub read : Task → CvState → TaskRun
read task d =
    run_that_keeps (result_of task Done (held task d)) (flat_map sequence (read_of task.address (held task d))) d

-- it is written, or is not
abbrev pub write_sent : Task → List ServicePacket
write_sent task = sequence (WriteByte task.address task.value)

abbrev pub written : Task → CvState → TaskRun
written task d = run_that_stores (result_of task Done task.value) (write_sent task) task d task.value

abbrev pub refused : Task → CvState → TaskRun
refused task d = run_that_keeps (result_of task NoWriteAcknowledge task.value) (write_sent task) d

-- All have the values of the file. That is a change if one of them had another.
abbrev pub reset : Task → CvState → TaskRun
reset task d =
    run_with (result_of task Done task.value) (write_sent task) (if bytes_eq d.values d.filed then [] else change.Reset ∷ []) d d.filed

-- a bit is read
abbrev pub is_on : Task → CvState → Bool
is_on task d = bit_at (held task d) (task.value % 8) == 1

abbrev pub bit_read : Task → CvState → TaskRun
bit_read task d = run_that_keeps (result_of task Done (bit_value task.value (is_on task d)))
    (flat_map sequence (if is_on task d then on_question task else off_question task)) d

-- it is written, or is not
abbrev pub bit_sent : Task → List ServicePacket
bit_sent task = sequence (bit_write task.address task.value)

abbrev pub bit_written : Task → CvState → TaskRun
bit_written task d = run_that_stores (result_of task Done task.value) (bit_sent task) task d
    (with_bit (held task d) (task.value % 8) (task.value / 8 % 2 == 1))

abbrev pub bit_refused : Task → CvState → TaskRun
bit_refused task d = run_that_keeps (result_of task NoWriteAcknowledge task.value) (bit_sent task) d

-- there is no decoder
abbrev pub empty : Task → TaskRun
empty task = record { result = result_of task NoDecoder task.value; sent = Reset ∷ []; changes = []; decoder = None }

-- no acknowledgment is drawn
abbrev pub read_failed : Task → CvState → TaskRun
read_failed task d =
    run_that_keeps (result_of task NoReadAcknowledge 0) (flat_map sequence (read_of task.address 0)) d

abbrev pub write_failed : Task → CvState → TaskRun
write_failed task d =
    run_that_stores (result_of task NoWriteAcknowledge task.value) (write_sent task) task d task.value
