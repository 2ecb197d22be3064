-- A task as sequences, on a track with a decoder.
use Rattle.std.proofs.Common.{◌≡◌, ℕ, suc, ◌+◌, ◌-◌, ◌*◌, ◌/◌, ◌%◌, ◌^◌, ◌<◌, ◌≤◌, ◌==◌, ◌&&◌, ◌||◌, Bool, true, false, if◌then◌else◌, not, List, [], ◌∷◌, Option, Some, None, get_or, set, length, bit_xor, refl, sym, ap, ◌∙◌, arith, inl, inr, eq-eqb, ne_eqb}
use Rattle.std.proofs.lemmas.Bool.{and_from, cases_eq}
use Rattle.std.proofs.lemmas.List.{get_or-set_same, set-set}
use Rattle.std.proofs.lemmas.Slice.Eq.{bytes_eq-Decides}
use Rattle.std.proofs.lemmas.Nat.Bits.{bit_at-lt, bit_at-pow_same, bit_at_xor}
use Rattle.std.specs.Int.{bit_at}
use Rattle.std.specs.List.{flat_map}
use Rattle.service_mode.specs.declared.instruction.Instruction.{Instruction}
use Rattle.service_mode.specs.declared.instruction.Instruction.TheVariants.{VerifyByte, WriteByte, VerifyBit, WriteBit}
use Rattle.service_mode.specs.declared.packet.ServicePacket.{ServicePacket}
use Rattle.service_mode.specs.declared.packet.ServicePacket.TheVariants.{Direct}
use Rattle.service_mode.specs.Spelling.{digit, is_same, is_same_bool}
use Rattle.cv_memory.specs.declared.cv_change.CvChange.{CvChange}
use Rattle.cv_memory.specs.declared.cv_change.CvChange.TheVariants as change
use Rattle.cv_memory.specs.Changes.{change_between, change_by, reset_between, stored_between}
use Rattle.cv_memory.specs.Hearing.{CvState, acknowledges, heard, is_read_only, is_reset, values_after, with_bit}
use Rattle.cv_memory.specs.History.{address_of, resets as is_resetting}
use Rattle.programmer.specs.declared.task.Task.{Task}
use Rattle.programmer.specs.declared.task_result.Status.TheVariants.{Done, NoReadAcknowledge, NoWriteAcknowledge}
use Rattle.programmer.specs.declared.task_result.TaskResult.{TaskResult}
use Rattle.programmer.specs.declared.task_state.Phase.{Phase}
use Rattle.programmer.specs.declared.task_state.Phase.TheVariants.{Writing, Reading, WritingBit, ReadingBit}
use Rattle.programmer.specs.declared.task_state.Next.{Next}
use Rattle.programmer.specs.declared.task_state.Next.TheVariants.{Continued}
use Rattle.programmer.specs.Machine.{at_sequence, bit_question, bit_value, bit_write, ended, instruction_at}
use Rattle.programmer.specs.Requests.{result_of}
use Rattle.programmer.specs.Whole.{off_question, on_question, sequence}
use Rattle.programming_track.specs.Outcomes.{after_reset, bit_read, bit_refused, bit_sent, bit_written, empty, held, is_on, read, read_failed, refused, reset, run_that_keeps, run_with, stored_by, write_failed, write_sent, written}
use Rattle.programming_track.specs.Tasks.{TaskRun, before_changes, run_behind, run_from, run_of}

-- an instruction is the same as itself
same_bool : (b : Bool) → is_same_bool b b ≡ true
same_bool true = refl
same_bool false = refl

same_refl : (i : Instruction) → is_same i i ≡ true
same_refl (VerifyByte a x) = and_from _ _ (eq-eqb a a refl) (eq-eqb x x refl)
same_refl (WriteByte a x) = and_from _ _ (eq-eqb a a refl) (eq-eqb x x refl)
same_refl (VerifyBit a i x) = and_from _ _ (and_from _ _ (eq-eqb a a refl) (eq-eqb i i refl)) (same_bool x)
same_refl (WriteBit a i x) = and_from _ _ (and_from _ _ (eq-eqb a a refl) (eq-eqb i i refl)) (same_bool x)

-- packets before the rest of a task, and what each changes
abbrev run_behind_all : List ServicePacket → List (Option CvChange) → Option TaskRun → Option TaskRun
run_behind_all [] changes rest = rest
run_behind_all (packet ∷ packets) [] rest = rest
run_behind_all (packet ∷ packets) (change ∷ changes) rest = run_behind packet change (run_behind_all packets changes rest)

-- the decoder after a number of packets with an instruction, the first of them after resets
abbrev first : Instruction → CvState → CvState
first i d = heard (after_reset d d.values) (Some (Direct i))

abbrev again : Instruction → CvState → CvState
again i d = heard d (Some (Direct i))

abbrev answers : Instruction → CvState → Bool
answers i d = acknowledges d (Some (Direct i))

-- whether a sequence is acknowledged
abbrev noticed : Instruction → CvState → Bool
noticed i d =
    let one = first i d in
    let two = again i one in
    let three = again i two in
    let four = again i three in
    answers i four || (answers i three || (answers i two || (answers i one || false)))

-- What each packet of a sequence changes: none but those of the instruction does, of which the second is
-- the first that is obeyed.
abbrev instruction_changes : (first second third fourth fifth : Option CvChange) → List (Option CvChange)
instruction_changes a b c d e =
    None ∷ None ∷ None ∷ a ∷ b ∷ c ∷ d ∷ e ∷ None ∷ None ∷ None ∷ None ∷ None ∷ None ∷ []

abbrev changes : Instruction → CvState → Option CvChange
changes i d = change_by d (Some (Direct i))

abbrev changed : Instruction → CvState → List (Option CvChange)
changed i d =
    let one = first i d in
    let two = again i one in
    let three = again i two in
    let four = again i three in
    instruction_changes (changes i (after_reset d d.values)) (changes i one) (changes i two) (changes i three) (changes i four)

abbrev changed_once : Option CvChange → List (Option CvChange)
changed_once change = instruction_changes None change None None None

-- the decoder after a sequence
abbrev rested : Instruction → CvState → CvState
rested i d = after_reset d (again i (again i (again i (again i (first i d))))).values

-- a sequence, and what comes after it
abbrev after_sequence : ℕ → Bool → Task → Phase → Instruction → List (Option CvChange) → (acknowledged : Bool) → CvState → Option TaskRun
after_sequence n f q phase i changes acknowledged d =
    run_behind_all (sequence i) changes (run_from (ended q phase acknowledged) (λ next. run_of n next f (Some d)) (Some d))

one_sequence : (n : ℕ) (q : Task) (phase : Phase) (d : CvState) →
    run_of (suc (suc (suc (suc (suc (suc (suc (suc (suc (suc (suc (suc (suc (suc n)))))))))))))) (at_sequence q phase) false (Some d)
    ≡ after_sequence n false q phase (instruction_at q phase) (changed (instruction_at q phase) d) (noticed (instruction_at q phase) d) (rested (instruction_at q phase) d)
one_sequence n q phase d = refl

one_failing : (n : ℕ) (q : Task) (phase : Phase) (d : CvState) →
    run_of (suc (suc (suc (suc (suc (suc (suc (suc (suc (suc (suc (suc (suc (suc n)))))))))))))) (at_sequence q phase) true (Some d)
    ≡ after_sequence n true q phase (instruction_at q phase) (changed (instruction_at q phase) d) false (rested (instruction_at q phase) d)
one_failing n q phase d = refl

or_same : (a : Bool) → (a || (a || (a || (a || false)))) ≡ a
or_same true = refl
or_same false = refl

-- a sequence whose answer and whose effect on the decoder are known
known_sequence : (n : ℕ) (q : Task) (phase : Phase) (d after : CvState) (i : Instruction) (change : Option CvChange) (a : Bool) → instruction_at q phase ≡ i → changed i d ≡ changed_once change → noticed i d ≡ a → rested i d ≡ after →
    run_of (suc (suc (suc (suc (suc (suc (suc (suc (suc (suc (suc (suc (suc (suc n)))))))))))))) (at_sequence q phase) false (Some d)
    ≡ after_sequence n false q phase i (changed_once change) a after
known_sequence n q phase d after i change a is change_is acknowledged rests =
    one_sequence n q phase d
    ∙ ap (λ (i : Instruction). after_sequence n false q phase i (changed i d) (noticed i d) (rested i d)) is
    ∙ ap (λ (cs : List (Option CvChange)). after_sequence n false q phase i cs (noticed i d) (rested i d)) change_is
    ∙ ap (λ (a : Bool). after_sequence n false q phase i (changed_once change) a (rested i d)) acknowledged
    ∙ ap (λ (r : CvState). after_sequence n false q phase i (changed_once change) a r) rests

failing_sequence : (n : ℕ) (q : Task) (phase : Phase) (d after : CvState) (i : Instruction) (change : Option CvChange) → instruction_at q phase ≡ i → changed i d ≡ changed_once change → rested i d ≡ after →
    run_of (suc (suc (suc (suc (suc (suc (suc (suc (suc (suc (suc (suc (suc (suc n)))))))))))))) (at_sequence q phase) true (Some d)
    ≡ after_sequence n true q phase i (changed_once change) false after
failing_sequence n q phase d after i change is change_is rests =
    one_failing n q phase d
    ∙ ap (λ (i : Instruction). after_sequence n true q phase i (changed i d) false (rested i d)) is
    ∙ ap (λ (cs : List (Option CvChange)). after_sequence n true q phase i cs false (rested i d)) change_is
    ∙ ap (λ (r : CvState). after_sequence n true q phase i (changed_once change) false r) rests

-- A sequence changes once what its instruction changes, if that changes nothing more by itself.
module _ (i : Instruction) (d : CvState) where
  -- the decoder with these variables, as it obeys
  abbrev obeying : List ℕ → CvState
  obeying values = record { values = values; filed = d.filed; service = true; last = Some i }

  obeys : (values after : List ℕ) → values_after (obeying values) i ≡ after → again i (obeying values) ≡ obeying after
  obeys values after is = rw (same_refl i) (ap obeying is)

  obeys_change : (values after : List ℕ) → values_after (obeying values) i ≡ after → changes i (obeying values) ≡ change_between i values after
  obeys_change values after is = rw (same_refl i) (ap (change_between i values) is)

  none_between : (values : List ℕ) → change_between i values values ≡ None
  none_between values = by_test (is_resetting i) where
    by_test : (t : Bool) → (if t then reset_between values values else stored_between (address_of i) values values) ≡ None
    by_test true = rw ((bytes_eq-Decides values values).1 refl) refl
    by_test false = rw (eq-eqb (get_or values (address_of i) 0) (get_or values (address_of i) 0) refl) refl

  changes_once : (after : List ℕ) → values_after (obeying d.values) i ≡ after → values_after (obeying after) i ≡ after → changed i d ≡ changed_once (change_between i d.values after)
  changes_once after now still =
      let one = changes i (obeying d.values) in
      let kept = changes i (obeying after) in
      ap (λ (x : CvState). instruction_changes None one (changes i x) (changes i (again i x)) (changes i (again i (again i x)))) (obeys d.values after now)
      ∙ ap (λ (x : CvState). instruction_changes None one kept (changes i x) (changes i (again i x))) (obeys after after still)
      ∙ ap (λ (x : CvState). instruction_changes None one kept kept (changes i x)) (obeys after after still)
      ∙ ap (λ (o : Option CvChange). instruction_changes None o kept kept kept) (obeys_change d.values after now)
      ∙ ap (λ (o : Option CvChange). instruction_changes None (change_between i d.values after) o o o) (obeys_change after after still ∙ none_between after)

  changes_none : values_after (obeying d.values) i ≡ d.values → changed i d ≡ changed_once None
  changes_none still = changes_once d.values still still ∙ ap changed_once (none_between d.values)

-- what a decoder does in a sequence
module _ (d : CvState) (p : ℕ) where
  verify_bit_noticed : (b : ℕ) (on : Bool) → noticed (VerifyBit p b on) d ≡ (bit_at (get_or d.values p 0) b == digit on)
  verify_bit_noticed b on = rw (same_refl (VerifyBit p b on)) (or_same (bit_at (get_or d.values p 0) b == digit on))

  verify_bit_rested : (b : ℕ) (on : Bool) → rested (VerifyBit p b on) d ≡ after_reset d d.values
  verify_bit_rested b on = rw (same_refl (VerifyBit p b on)) refl

  verify_byte_noticed : (x : ℕ) → noticed (VerifyByte p x) d ≡ (get_or d.values p 0 == x)
  verify_byte_noticed x = rw (same_refl (VerifyByte p x)) (or_same (get_or d.values p 0 == x))

  verify_byte_rested : (x : ℕ) → rested (VerifyByte p x) d ≡ after_reset d d.values
  verify_byte_rested x = rw (same_refl (VerifyByte p x)) refl

  write_noticed : (x : ℕ) → noticed (WriteByte p x) d ≡ (is_reset p x || not (is_read_only p))
  write_noticed x = rw (same_refl (WriteByte p x)) (or_same (is_reset p x || not (is_read_only p)))

  set_again : (x : ℕ) → set (set (set (set d.values p x) p x) p x) p x ≡ set d.values p x
  set_again x = set-set (set (set d.values p x) p x) p x x ∙ set-set (set d.values p x) p x x ∙ set-set d.values p x x

  write_stored : (x : ℕ) → is_reset p x ≡ false → is_read_only p ≡ false → rested (WriteByte p x) d ≡ after_reset d (set d.values p x)
  write_stored x e h = rw (same_refl (WriteByte p x), e, h) (ap (after_reset d) (set_again x))

  write_refused : (x : ℕ) → is_reset p x ≡ false → is_read_only p ≡ true → rested (WriteByte p x) d ≡ after_reset d d.values
  write_refused x e h = rw (same_refl (WriteByte p x), e, h) refl

  write_resets : (x : ℕ) → is_reset p x ≡ true → rested (WriteByte p x) d ≡ after_reset d d.filed
  write_resets x e = rw (same_refl (WriteByte p x), e) refl

  write_bit_noticed : (b : ℕ) (on : Bool) → noticed (WriteBit p b on) d ≡ not (is_read_only p)
  write_bit_noticed b on = rw (same_refl (WriteBit p b on)) (or_same (not (is_read_only p)))

  write_bit_refused : (b : ℕ) (on : Bool) → is_read_only p ≡ true → rested (WriteBit p b on) d ≡ after_reset d d.values
  write_bit_refused b on h = rw (same_refl (WriteBit p b on), h) refl

true_false : true ≡ false → ⊥
true_false e = cc

-- a variable that is stored resets nothing
no_reset : (p x : ℕ) → is_read_only p ≡ false → is_reset p x ≡ false
no_reset p x h = by_tests (p == 6) (p == 7) (x == 8) h where
  by_tests : (a b c : Bool) → (a || b) ≡ false → (b && c) ≡ false
  by_tests false false c e = refl
  by_tests true false c e = refl
  by_tests false true c e = absurd (true_false e)
  by_tests true true c e = absurd (true_false e)

-- what a sequence of a read comes to: one more bit is known
ended_read : (q : Task) (left k known next : ℕ) (a : Bool) → (left == 0) ≡ false → left - 1 ≡ k → known % 128 * 2 + digit a ≡ next → ended q (Reading left known) a ≡ Continued (at_sequence q (Reading k next))
ended_read q left k known next a e f g = rw (e, f, g) refl

asks : (q : Task) (left k known : ℕ) → (left == 0) ≡ false → left - 1 ≡ k → instruction_at q (Reading left known) ≡ VerifyBit q.address k true
asks q left k known e f = rw (e, f) refl

module _ (q : Task) (d : CvState) where
  learn : (n left k known next : ℕ) → (left == 0) ≡ false → left - 1 ≡ k → known % 128 * 2 + digit (bit_at (get_or d.values q.address 0) k == 1) ≡ next →
      run_of (suc (suc (suc (suc (suc (suc (suc (suc (suc (suc (suc (suc (suc (suc n)))))))))))))) (at_sequence q (Reading left known)) false (Some d)
      ≡ run_behind_all (sequence (VerifyBit q.address k true)) (changed_once None) (run_of n (at_sequence q (Reading k next)) false (Some (after_reset d d.values)))
  learn n left k known next e f g =
      known_sequence n q (Reading left known) d (after_reset d d.values) (VerifyBit q.address k true) None (bit_at (get_or d.values q.address 0) k == 1)
      (asks q left k known e f) (changes_none (VerifyBit q.address k true) d refl) (verify_bit_noticed d q.address k true) (verify_bit_rested d q.address k true)
      ∙ ap (λ (x : Next). run_behind_all (sequence (VerifyBit q.address k true)) (changed_once None) (run_from x (λ next. run_of n next false (Some (after_reset d d.values))) (Some (after_reset d d.values))))
      (ended_read q left k known next (bit_at (get_or d.values q.address 0) k == 1) e f g)

  -- the byte that was found is confirmed
  confirm : (known : ℕ) → known ≡ get_or d.values q.address 0 →
      run_of 14 (at_sequence q (Reading 0 known)) false (Some d)
      ≡ run_behind_all (sequence (VerifyByte q.address known)) (changed_once None) (Some (record { result = result_of q Done known; sent = []; changes = []; decoder = Some (after_reset d d.values) }))
  confirm known is =
      known_sequence 0 q (Reading 0 known) d (after_reset d d.values) (VerifyByte q.address known) None true
      refl (changes_none (VerifyByte q.address known) d refl) (verify_byte_noticed d q.address known ∙ eq-eqb (get_or d.values q.address 0) known (sym is)) (verify_byte_rested d q.address known)

  -- no bit is found
  miss : (n left k : ℕ) → (left == 0) ≡ false → left - 1 ≡ k →
      run_of (suc (suc (suc (suc (suc (suc (suc (suc (suc (suc (suc (suc (suc (suc n)))))))))))))) (at_sequence q (Reading left 0)) true (Some d)
      ≡ run_behind_all (sequence (VerifyBit q.address k true)) (changed_once None) (run_of n (at_sequence q (Reading k 0)) true (Some (after_reset d d.values)))
  miss n left k e f =
      failing_sequence n q (Reading left 0) d (after_reset d d.values) (VerifyBit q.address k true) None (asks q left k 0 e f) (changes_none (VerifyBit q.address k true) d refl) (verify_bit_rested d q.address k true)
      ∙ ap (λ (x : Next). run_behind_all (sequence (VerifyBit q.address k true)) (changed_once None) (run_from x (λ next. run_of n next true (Some (after_reset d d.values))) (Some (after_reset d d.values))))
      (ended_read q left k 0 0 false e f refl)

  miss_byte :
      run_of 14 (at_sequence q (Reading 0 0)) true (Some d)
      ≡ run_behind_all (sequence (VerifyByte q.address 0)) (changed_once None) (Some (record { result = result_of q NoReadAcknowledge 0; sent = []; changes = []; decoder = Some (after_reset d d.values) }))
  miss_byte = failing_sequence 0 q (Reading 0 0) d (after_reset d d.values) (VerifyByte q.address 0) None refl (changes_none (VerifyByte q.address 0) d refl) (verify_byte_rested d q.address 0)

set_bit : (n : ℕ) → digit (n % 2 == 1) ≡ n % 2
set_bit n = elim (cases_eq (n % 2) 1) [
  | inl e ↦ rw (eq-eqb (n % 2) 1 e) (sym e)
  | inr ne ↦ rw (ne_eqb (n % 2) 1 ne) (omega arith)
]

-- A read of a decoder: each sequence gives one bit, and then the byte is confirmed.
pub reads : (q : Task) (d : CvState) → get_or d.values q.address 0 < 256 → run_of 126 (at_sequence q (Reading 8 0)) false (Some d) ≡ Some (read q d)
reads q d below =
    let v = get_or d.values q.address 0 in
    let r = after_reset d d.values in
    let sequences : ℕ → Option TaskRun → Option TaskRun = λ k rest. run_behind_all (sequence (VerifyBit q.address k true)) (changed_once None) rest in
    learn q d 112 8 7 0 (v / 128) refl refl (omega (arith, set_bit (v / 2 ^ 7)))
    ∙ ap (sequences 7) (learn q r 98 7 6 (v / 128) (v / 64) refl refl (omega (arith, set_bit (v / 2 ^ 6)))
    ∙ ap (sequences 6) (learn q r 84 6 5 (v / 64) (v / 32) refl refl (omega (arith, set_bit (v / 2 ^ 5)))
    ∙ ap (sequences 5) (learn q r 70 5 4 (v / 32) (v / 16) refl refl (omega (arith, set_bit (v / 2 ^ 4)))
    ∙ ap (sequences 4) (learn q r 56 4 3 (v / 16) (v / 8) refl refl (omega (arith, set_bit (v / 2 ^ 3)))
    ∙ ap (sequences 3) (learn q r 42 3 2 (v / 8) (v / 4) refl refl (omega (arith, set_bit (v / 2 ^ 2)))
    ∙ ap (sequences 2) (learn q r 28 2 1 (v / 4) (v / 2) refl refl (omega (arith, set_bit (v / 2 ^ 1)))
    ∙ ap (sequences 1) (learn q r 14 1 0 (v / 2) v refl refl (omega (arith, set_bit (v / 2 ^ 0)))
    ∙ ap (sequences 0) (confirm q r v refl))))))))

-- without acknowledgments no bit is found
pub failing_reads : (q : Task) (d : CvState) → run_of 126 (at_sequence q (Reading 8 0)) true (Some d) ≡ Some (read_failed q d)
failing_reads q d =
    let r = after_reset d d.values in
    let sequences : ℕ → Option TaskRun → Option TaskRun = λ k rest. run_behind_all (sequence (VerifyBit q.address k true)) (changed_once None) rest in
    miss q d 112 8 7 refl refl
    ∙ ap (sequences 7) (miss q r 98 7 6 refl refl
    ∙ ap (sequences 6) (miss q r 84 6 5 refl refl
    ∙ ap (sequences 5) (miss q r 70 5 4 refl refl
    ∙ ap (sequences 4) (miss q r 56 4 3 refl refl
    ∙ ap (sequences 3) (miss q r 42 3 2 refl refl
    ∙ ap (sequences 2) (miss q r 28 2 1 refl refl
    ∙ ap (sequences 1) (miss q r 14 1 0 refl refl
    ∙ ap (sequences 0) (miss_byte q r))))))))

-- what a write of a byte changes
module _ (q : Task) (d : CvState) where
  abbrev write : Instruction
  write = WriteByte q.address q.value

  write_changes : is_read_only q.address ≡ false → changed write d ≡ changed_once (stored_between q.address d.values (stored_by q d q.value))
  write_changes h =
      changes_once write d (stored_by q d q.value) (rw (no_reset q.address q.value h, h) refl) (rw (no_reset q.address q.value h, h) (set-set d.values q.address q.value q.value))
      ∙ ap changed_once (rw (no_reset q.address q.value h) refl)

  refused_changes : is_read_only q.address ≡ true → is_reset q.address q.value ≡ false → changed write d ≡ changed_once None
  refused_changes h e = changes_none write d (rw (e, h) refl)

  reset_changes : is_reset q.address q.value ≡ true → changed write d ≡ changed_once (reset_between d.values d.filed)
  reset_changes e = changes_once write d d.filed (rw e refl) (rw e refl) ∙ ap changed_once (rw e refl)

-- one change, or none
one_or_none : (t : Bool) (change : CvChange) → before_changes (if t then None else Some change) [] ≡ (if t then [] else change ∷ [])
one_or_none true change = refl
one_or_none false change = refl

abbrev with_changes : TaskResult → List ServicePacket → CvState → (values : List ℕ) → List CvChange → Option TaskRun
with_changes ended sent d values changes = Some (run_with ended sent changes d values)

-- writes of a byte: stored, refused, one that resets, and one that is not acknowledged
pub writes : (q : Task) (d : CvState) → is_read_only q.address ≡ false → run_of 126 (at_sequence q Writing) false (Some d) ≡ Some (written q d)
writes q d h =
    known_sequence 112 q Writing d (after_reset d (set d.values q.address q.value)) (WriteByte q.address q.value) (stored_between q.address d.values (stored_by q d q.value)) true refl
    (write_changes q d h)
    (write_noticed d q.address q.value ∙ rw (no_reset q.address q.value h, h) refl)
    (write_stored d q.address q.value (no_reset q.address q.value h) h)
    ∙ ap (with_changes (result_of q Done q.value) (write_sent q) d (stored_by q d q.value))
    (one_or_none _ (change.Stored q.address (get_or (stored_by q d q.value) q.address 0)))

pub is_refused : (q : Task) (d : CvState) → is_read_only q.address ≡ true → is_reset q.address q.value ≡ false → run_of 126 (at_sequence q Writing) false (Some d) ≡ Some (refused q d)
is_refused q d h e =
    known_sequence 112 q Writing d (after_reset d d.values) (WriteByte q.address q.value) None false refl
    (refused_changes q d h e)
    (write_noticed d q.address q.value ∙ rw (e, h) refl) (write_refused d q.address q.value e h)

pub resets : (q : Task) (d : CvState) → is_reset q.address q.value ≡ true → run_of 126 (at_sequence q Writing) false (Some d) ≡ Some (reset q d)
resets q d e =
    known_sequence 112 q Writing d (after_reset d d.filed) (WriteByte q.address q.value) (reset_between d.values d.filed) true refl
    (reset_changes q d e)
    (write_noticed d q.address q.value ∙ rw e refl) (write_resets d q.address q.value e)
    ∙ ap (with_changes (result_of q Done q.value) (write_sent q) d d.filed) (one_or_none _ change.Reset)

pub failing_writes : (q : Task) (d : CvState) → is_read_only q.address ≡ false → run_of 126 (at_sequence q Writing) true (Some d) ≡ Some (write_failed q d)
failing_writes q d h =
    failing_sequence 112 q Writing d (after_reset d (set d.values q.address q.value)) (WriteByte q.address q.value) (stored_between q.address d.values (stored_by q d q.value)) refl
    (write_changes q d h)
    (write_stored d q.address q.value (no_reset q.address q.value h) h)
    ∙ ap (with_changes (result_of q NoWriteAcknowledge q.value) (write_sent q) d (stored_by q d q.value))
    (one_or_none _ (change.Stored q.address (get_or (stored_by q d q.value) q.address 0)))

-- a track with no decoder
pub empties : (q : Task) (phase : Phase) → run_of 126 (at_sequence q phase) false None ≡ Some (empty q)
empties q phase = refl

-- a bit that is not on is off
bit_off : (n : ℕ) → (n % 2 == 1) ≡ false → (n % 2 == 0) ≡ true
bit_off n h = elim (cases_eq (n % 2) 1) [
  | inl e ↦ absurd (true_false (sym (eq-eqb (n % 2) 1 e) ∙ h))
  | inr ne ↦ eq-eqb (n % 2) 0 (omega arith)
]

module _ (q : Task) (d : CvState) where
  abbrev bit : ℕ
  bit = q.value % 8

  abbrev bit_read_by : Bool → TaskRun
  bit_read_by on = run_that_keeps (result_of q Done (bit_value q.value on)) (flat_map sequence (if on then on_question q else off_question q)) d

  by_bit : (on : Bool) → is_on q d ≡ on → run_of 126 (at_sequence q (ReadingBit true)) false (Some d) ≡ Some (bit_read_by on)
  by_bit true e =
      known_sequence 112 q (ReadingBit true) d (after_reset d d.values) (bit_question q.address q.value true) None true refl (changes_none (bit_question q.address q.value true) d refl)
      (verify_bit_noticed d q.address bit true ∙ e) (verify_bit_rested d q.address bit true)
  by_bit false e =
      known_sequence 112 q (ReadingBit true) d (after_reset d d.values) (bit_question q.address q.value true) None false refl (changes_none (bit_question q.address q.value true) d refl)
      (verify_bit_noticed d q.address bit true ∙ e) (verify_bit_rested d q.address bit true)
      ∙ ap (run_behind_all (sequence (bit_question q.address q.value true)) (changed_once None))
      (known_sequence 98 q (ReadingBit false) (after_reset d d.values) (after_reset d d.values) (bit_question q.address q.value false) None true refl (changes_none (bit_question q.address q.value false) (after_reset d d.values) refl)
      (verify_bit_noticed (after_reset d d.values) q.address bit false ∙ bit_off (held q d / 2 ^ bit) e) (verify_bit_rested (after_reset d d.values) q.address bit false))

  pub bit_reads : run_of 126 (at_sequence q (ReadingBit true)) false (Some d) ≡ Some (bit_read q d)
  bit_reads = by_bit (is_on q d) refl

  pub bit_is_refused : is_read_only q.address ≡ true → run_of 126 (at_sequence q WritingBit) false (Some d) ≡ Some (bit_refused q d)
  bit_is_refused h =
      known_sequence 112 q WritingBit d (after_reset d d.values) (bit_write q.address q.value) None false refl
      (changes_none (bit_write q.address q.value) d (rw h refl))
      (write_bit_noticed d q.address bit (q.value / 8 % 2 == 1) ∙ rw h refl) (write_bit_refused d q.address bit (q.value / 8 % 2 == 1) h)

-- a bit that is on or off stays so
parity : (x y z n : ℕ) → z ≡ (x + y) % 2 → y ≡ 1 → x < 2 → n ≤ 1 → (x ≡ n → ⊥) → z ≡ n
parity x y z n e f g h other = omega arith

digit-le : (b : Bool) → digit b ≤ 1
digit-le true = omega arith
digit-le false = omega arith

flipped : (v b : ℕ) (on : Bool) → (bit_at v b == digit on) ≡ false → (bit_at (bit_xor v (2 ^ b)) b == digit on) ≡ true
flipped v b on e =
    eq-eqb (bit_at (bit_xor v (2 ^ b)) b) (digit on)
    (parity (bit_at v b) (bit_at (2 ^ b) b) (bit_at (bit_xor v (2 ^ b)) b) (digit on) (bit_at_xor v (2 ^ b) b) (bit_at-pow_same b) (bit_at-lt v b) (digit-le on)
    (λ h. true_false (sym (eq-eqb (bit_at v b) (digit on) h) ∙ e)))

with_bit_again : (v b : ℕ) (on : Bool) → with_bit (with_bit v b on) b on ≡ with_bit v b on
with_bit_again v b on = by_test (bit_at v b == digit on) refl where
  by_test : (t : Bool) → (bit_at v b == digit on) ≡ t → with_bit (if t then v else bit_xor v (2 ^ b)) b on ≡ (if t then v else bit_xor v (2 ^ b))
  by_test true e = rw e refl
  by_test false e = rw (flipped v b on e) refl

module _ (q : Task) (d : CvState) (there : q.address < length d.values) (h : is_read_only q.address ≡ false) where
  abbrev on : Bool
  on = q.value / 8 % 2 == 1

  abbrev bit_set : List ℕ → List ℕ
  bit_set values = set values q.address (with_bit (get_or values q.address 0) (q.value % 8) on)

  set_once : bit_set (bit_set d.values) ≡ bit_set d.values
  set_once =
      let w = with_bit (get_or d.values q.address 0) (q.value % 8) on in
      ap (λ (x : ℕ). set (set d.values q.address w) q.address (with_bit x (q.value % 8) on)) (get_or-set_same d.values q.address w 0 there)
      ∙ ap (λ (x : ℕ). set (set d.values q.address w) q.address x) (with_bit_again (get_or d.values q.address 0) (q.value % 8) on)
      ∙ set-set d.values q.address w w

  write_bit_stored : rested (bit_write q.address q.value) d ≡ after_reset d (bit_set d.values)
  write_bit_stored = rw (same_refl (bit_write q.address q.value), h)
      (ap (after_reset d) (ap (λ (xs : List ℕ). bit_set (bit_set xs)) set_once ∙ ap bit_set set_once ∙ set_once))

  write_bit_changes : changed (bit_write q.address q.value) d ≡ changed_once (stored_between q.address d.values (bit_set d.values))
  write_bit_changes = changes_once (bit_write q.address q.value) d (bit_set d.values) (rw h refl) (rw h set_once)

  pub bit_writes : run_of 126 (at_sequence q WritingBit) false (Some d) ≡ Some (bit_written q d)
  bit_writes =
      known_sequence 112 q WritingBit d (after_reset d (bit_set d.values)) (bit_write q.address q.value) (stored_between q.address d.values (bit_set d.values)) true refl
      write_bit_changes
      (write_bit_noticed d q.address (q.value % 8) on ∙ rw h refl) write_bit_stored
      ∙ ap (with_changes (result_of q Done q.value) (bit_sent q) d (bit_set d.values))
      (one_or_none _ (change.Stored q.address (get_or (bit_set d.values) q.address 0)))
