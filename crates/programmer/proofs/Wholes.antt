-- A task sequence by sequence, whatever is acknowledged.
use Rattle.std.proofs.Common.{◌≡◌, ◌⊎◌, ℕ, suc, ◌+◌, ◌*◌, ◌%◌, ◌||◌, Bool, true, false, if◌then◌else◌, List, [], ◌∷◌, Option, Some, refl, inl, inr, ◌∙◌}
use Rattle.std.specs.List.{flat_map}
use Rattle.service_mode.specs.declared.instruction.Instruction.{Instruction}
use Rattle.service_mode.specs.declared.instruction.Instruction.TheVariants.{WriteByte}
use Rattle.service_mode.specs.declared.packet.ServicePacket.{ServicePacket}
use Rattle.service_mode.specs.Spelling.{digit}
use Rattle.programmer.specs.declared.task.Task.{Task}
use Rattle.programmer.specs.declared.task_result.Status.{Status}
use Rattle.programmer.specs.declared.task_result.Status.TheVariants.{Done, NoReadAcknowledge, NoWriteAcknowledge}
use Rattle.programmer.specs.declared.task_state.Phase.{Phase}
use Rattle.programmer.specs.declared.task_state.Phase.TheVariants.{Writing, Reading, WritingBit, ReadingBit}
use Rattle.programmer.specs.Machine.{at_sequence, begun, bit_value, bit_write, ended, instruction_at}
use Rattle.programmer.specs.Requests.{is_bit, is_write, result_of}
use Rattle.programmer.specs.Whole.{IsBitQuestion, TaskEnd, with_packet, end_from, end_of, off_question, on_question, sequence, read_of}

abbrev with_packets : List ServicePacket → Option TaskEnd → Option TaskEnd
with_packets [] rest = rest
with_packets (packet ∷ packets) rest = with_packet packet (with_packets packets rest)

abbrev pub later : (ℕ → Bool) → ℕ → Bool
later bits = λ i. bits (i + 1 + 1 + 1 + 1 + 1 + 1 + 1 + 1 + 1 + 1 + 1 + 1 + 1 + 1)

-- an acknowledgment counts from the first packet with the instruction on
abbrev pub noticed : (ℕ → Bool) → Bool
noticed bits =
    bits 13 || (bits 12 || (bits 11 || (bits 10 || (bits 9 || (bits 8 || (bits 7 || (bits 6 || (bits 5 || (bits 4 || (bits 3 || false))))))))))

-- a sequence, and what comes after it
abbrev after_sequence : ℕ → Task → Phase → (acknowledged : Bool) → (ℕ → Bool) → Option TaskEnd
after_sequence n q phase acknowledged bits =
    with_packets (sequence (instruction_at q phase)) (end_from (ended q phase acknowledged) (λ next. end_of n next bits))

one_sequence : (n : ℕ) (q : Task) (phase : Phase) (bits : ℕ → Bool) →
    end_of (suc (suc (suc (suc (suc (suc (suc (suc (suc (suc (suc (suc (suc (suc n)))))))))))))) (at_sequence q phase) bits
    ≡ after_sequence n q phase (noticed bits) (later bits)
one_sequence n q phase bits = refl

-- what is known after a sequence
abbrev learned : ℕ → (ℕ → Bool) → ℕ
learned known bits = known % 128 * 2 + digit (noticed bits)

abbrev status_of : Bool → Status → Status
status_of acknowledged fault = if acknowledged then Done else fault

pub is_status : (acknowledged : Bool) (fault : Status) → (status_of acknowledged fault ≡ Done) ⊎ (status_of acknowledged fault ≡ fault)
is_status true fault = inl refl
is_status false fault = inr refl

module _ (q : Task) (bits : ℕ → Bool) where
  abbrev b1 : ℕ → Bool
  b1 = later bits

  abbrev b2 : ℕ → Bool
  b2 = later b1

  abbrev b3 : ℕ → Bool
  b3 = later b2

  abbrev b4 : ℕ → Bool
  b4 = later b3

  abbrev b5 : ℕ → Bool
  b5 = later b4

  abbrev b6 : ℕ → Bool
  b6 = later b5

  abbrev b7 : ℕ → Bool
  b7 = later b6

  abbrev b8 : ℕ → Bool
  b8 = later b7

  abbrev pub found : ℕ
  found = learned (learned (learned (learned (learned (learned (learned (learned 0 bits) b1) b2) b3) b4) b5) b6) b7

  abbrev pub read_status : Status
  read_status = status_of (noticed b8) NoReadAcknowledge

  abbrev pub write_status : Status
  write_status = status_of (noticed bits) NoWriteAcknowledge

  pub read_is : (read_status ≡ Done) ⊎ (read_status ≡ NoReadAcknowledge)
  read_is = is_status (noticed b8) NoReadAcknowledge

  pub write_is : (write_status ≡ Done) ⊎ (write_status ≡ NoWriteAcknowledge)
  write_is = is_status (noticed bits) NoWriteAcknowledge

  pub reads : end_of 126 (at_sequence q (Reading 8 0)) bits ≡ Some (record { result = result_of q read_status found; sent = flat_map sequence (read_of q.address found) })
  reads = refl

  pub writes : end_of 126 (at_sequence q Writing) bits ≡ Some (record { result = result_of q write_status q.value; sent = sequence (WriteByte q.address q.value) })
  writes = refl

  pub bit_writes : end_of 126 (at_sequence q WritingBit) bits ≡ Some (record { result = result_of q write_status q.value; sent = sequence (bit_write q.address q.value) })
  bit_writes = refl

  -- a read of a bit, if its questions are acknowledged or not
  abbrev pub bit_status : (on off : Bool) → Status
  bit_status true off = Done
  bit_status false off = status_of off NoReadAcknowledge

  abbrev pub questions : (on : Bool) → List Instruction
  questions true = on_question q
  questions false = off_question q

  pub bit_status_is : (on off : Bool) → (bit_status on off ≡ Done) ⊎ (bit_status on off ≡ NoReadAcknowledge)
  bit_status_is true off = inl refl
  bit_status_is false off = is_status off NoReadAcknowledge

  pub questions_are : (on : Bool) → IsBitQuestion q (questions on)
  questions_are true = inl refl
  questions_are false = inr refl

  abbrev bit_end : (on off : Bool) → Option TaskEnd
  bit_end on off = Some (record { result = result_of q (bit_status on off) (bit_value q.value on); sent = flat_map sequence (questions on) })

  by_answer : (on : Bool) → after_sequence 112 q (ReadingBit true) on b1 ≡ bit_end on (noticed b1)
  by_answer true = refl
  by_answer false = refl

  pub bit_reads : end_of 126 (at_sequence q (ReadingBit true)) bits ≡ bit_end (noticed bits) (noticed b1)
  bit_reads = one_sequence 112 q (ReadingBit true) bits ∙ by_answer (noticed bits)

  pub begun_read : is_bit q ≡ false → is_write q ≡ false → end_of 126 (begun q) bits ≡ end_of 126 (at_sequence q (Reading 8 0)) bits
  begun_read b e = rw (b, e) refl

  pub begun_write : is_bit q ≡ false → is_write q ≡ true → end_of 126 (begun q) bits ≡ end_of 126 (at_sequence q Writing) bits
  begun_write b e = rw (b, e) refl

  pub begun_bit_read : is_bit q ≡ true → is_write q ≡ false → end_of 126 (begun q) bits ≡ end_of 126 (at_sequence q (ReadingBit true)) bits
  begun_bit_read b e = rw (b, e) refl

  pub begun_bit_write : is_bit q ≡ true → is_write q ≡ true → end_of 126 (begun q) bits ≡ end_of 126 (at_sequence q WritingBit) bits
  begun_bit_write b e = rw (b, e) refl
