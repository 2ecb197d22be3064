-- Which task a message begins.
use Rattle.std.proofs.Common.{◌≡◌, ℕ, ◌&&◌, ◌||◌, ◌==◌, Bool, true, false, if◌then◌else◌, is_some, eqb-true, List, Option, Some, None, not, refl, ap, subst, sym}
use Rattle.cv_memory.specs.Hearing.{CvState}
use Rattle.programmer.specs.declared.slot_request.SlotRequest.TheVariants.{Begin}
use Rattle.programmer.specs.declared.task_result.TaskResult.{TaskResult}
use Rattle.programmer.specs.declared.task_state.Phase.{Phase}
use Rattle.programmer.specs.declared.task_state.Phase.TheVariants.{Writing, Reading, WritingBit, ReadingBit}
use Rattle.programmer.specs.Machine.{ProgrammerState, after_request, at_sequence, begun}
use Rattle.programmer.specs.Requests.{is_bit, is_byte, is_start, is_task_message, is_write, request_in, task_of}
use Rattle.programming_track.specs.declared.programming_track.ProgrammingTrack.{ProgrammingTrack}
use Rattle.programming_track.specs.Completes.{Completes}
use Rattle.programming_track.specs.Outcomes.{begins_bit, begins_bit_read, begins_bit_write, begins_byte, begins_read, begins_task, begins_write}
use Rattle.programming_track.specs.Tasks.{TaskRun, run_of}
use Rattle.programming_track.specs.Track.{requested, waiting}
use Rattle.programming_track.proofs.Lasting.{in_time}

true_false : true ≡ false → ⊥
true_false e = cc

both : (a b : Bool) → (a && b) ≡ true → (a ≡ true) × (b ≡ true)
both true true e = (refl, refl)
both true false e = absurd (true_false (sym e))
both false b e = absurd (true_false (sym e))

not_true : (a : Bool) → not a ≡ true → a ≡ false
not_true false e = refl
not_true true e = absurd (true_false (sym e))

-- a number that is 10 is not 2
byte_no_bit : (n : ℕ) → (n == 10) ≡ true → (n == 2) ≡ false
byte_no_bit n e = rw (eqb-true n 10 e) refl

module _ (m : List ℕ) where
  starts : is_start m ≡ true → request_in m ≡ Some (Begin (task_of m))
  starts e =
      let parts = both (is_task_message m) _ e in
      rw (parts.0, not_true _ parts.1) refl

  module _ (last : TaskResult) (f : Bool) (d : Option CvState) where
    -- what such a message makes of a track
    begins : (p : Phase) → is_start m ≡ true → (is_byte (task_of m) || is_bit (task_of m)) ≡ true → begun (task_of m) ≡ at_sequence (task_of m) p →
        requested (waiting None last f d) m ≡ waiting (Some (at_sequence (task_of m) p)) last f d
    begins p e known is =
        let after : after_request (record { under_way = None; last = last }) (request_in m) ≡ record { under_way = Some (at_sequence (task_of m) p); last = last } =
        rw (starts e, known, is) refl in
        ap (λ (x : ProgrammerState). record { programmer = x; decoder = d; fails = f; elapsed = if is_some x.under_way then 0 else 0 }) after

    completes : (p : Phase) (run : TaskRun) → is_start m ≡ true → (is_byte (task_of m) || is_bit (task_of m)) ≡ true → begun (task_of m) ≡ at_sequence (task_of m) p → run_of 126 (at_sequence (task_of m) p) f d ≡ Some run →
        Completes (requested (waiting None last f d) m) run
    completes p run e known is runs =
        subst (λ (s : ProgrammingTrack). Completes s run) (sym (begins p e known is)) (in_time 126 (at_sequence (task_of m) p) last f d run runs)

    by_byte : (p : Phase) (run : TaskRun) → begins_byte m ≡ true → begun (task_of m) ≡ at_sequence (task_of m) p → run_of 126 (at_sequence (task_of m) p) f d ≡ Some run → Completes (requested (waiting None last f d) m) run
    by_byte p run e is runs =
        let parts = both (is_start m) (is_byte (task_of m)) e in
        completes p run parts.0 (ap (λ (b : Bool). b || is_bit (task_of m)) parts.1) is runs

    or_true : (a b : Bool) → b ≡ true → (a || b) ≡ true
    or_true true b e = refl
    or_true false b e = e

    by_bit : (p : Phase) (run : TaskRun) → begins_bit m ≡ true → begun (task_of m) ≡ at_sequence (task_of m) p → run_of 126 (at_sequence (task_of m) p) f d ≡ Some run → Completes (requested (waiting None last f d) m) run
    by_bit p run e is runs =
        let parts = both (is_start m) (is_bit (task_of m)) e in
        completes p run parts.0 (or_true (is_byte (task_of m)) (is_bit (task_of m)) parts.1) is runs

    pub read_completes : (run : TaskRun) → begins_read m ≡ true → run_of 126 (at_sequence (task_of m) (Reading 8 0)) f d ≡ Some run → Completes (requested (waiting None last f d) m) run
    read_completes run e runs =
        let parts = both (begins_byte m) _ e in
        let byte = both (is_start m) (is_byte (task_of m)) parts.0 in
        by_byte (Reading 8 0) run parts.0 (rw (byte_no_bit _ byte.1, not_true _ parts.1) refl) runs

    pub write_completes : (run : TaskRun) → begins_write m ≡ true → run_of 126 (at_sequence (task_of m) Writing) f d ≡ Some run → Completes (requested (waiting None last f d) m) run
    write_completes run e runs =
        let parts = both (begins_byte m) (is_write (task_of m)) e in
        let byte = both (is_start m) (is_byte (task_of m)) parts.0 in
        by_byte Writing run parts.0 (rw (byte_no_bit _ byte.1, parts.1) refl) runs

    pub bit_read_completes : (run : TaskRun) → begins_bit_read m ≡ true → run_of 126 (at_sequence (task_of m) (ReadingBit true)) f d ≡ Some run → Completes (requested (waiting None last f d) m) run
    bit_read_completes run e runs =
        let parts = both (begins_bit m) _ e in
        let bit = both (is_start m) (is_bit (task_of m)) parts.0 in
        by_bit (ReadingBit true) run parts.0 (rw (bit.1, not_true _ parts.1) refl) runs

    pub bit_write_completes : (run : TaskRun) → begins_bit_write m ≡ true → run_of 126 (at_sequence (task_of m) WritingBit) f d ≡ Some run → Completes (requested (waiting None last f d) m) run
    bit_write_completes run e runs =
        let parts = both (begins_bit m) (is_write (task_of m)) e in
        let bit = both (is_start m) (is_bit (task_of m)) parts.0 in
        by_bit WritingBit run parts.0 (rw (bit.1, parts.1) refl) runs

    -- some task begins
    pub task_completes : (run : TaskRun) → begins_task m ≡ true → ((p : Phase) → run_of 126 (at_sequence (task_of m) p) f d ≡ Some run) → Completes (requested (waiting None last f d) m) run
    task_completes run e runs = by_kind (begins_byte m) (begins_bit m) refl refl e where
      by_kind : (a b : Bool) → begins_byte m ≡ a → begins_bit m ≡ b → (a || b) ≡ true → Completes (requested (waiting None last f d) m) run
      by_kind true b x y e =
          let byte = both (is_start m) (is_byte (task_of m)) x in
          completes _ run byte.0 (ap (λ (b : Bool). b || is_bit (task_of m)) byte.1) refl (runs _)
      by_kind false true x y e =
          let bit = both (is_start m) (is_bit (task_of m)) y in
          completes _ run bit.0 (or_true (is_byte (task_of m)) (is_bit (task_of m)) bit.1) refl (runs _)
      by_kind false false x y e = absurd (true_false (sym e))
