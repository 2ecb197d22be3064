-- A task takes as long as its packets.
use Rattle.std.proofs.Common.{◌≡◌, ◌⊎◌, ℕ, zero, suc, ◌+◌, ◌-◌, ◌<◌, ◌≤◌, max, Bool, List, [], ◌∷◌, ◌++◌, Option, Some, None, refl, ap, subst, ◌∙◌, arith, inl, inr}
use Rattle.std.proofs.lemmas.Bool.{cases_lt}
use Rattle.std.proofs.lemmas.List.Sums.{sum_by-cons}
use Rattle.service_mode.specs.declared.packet.ServicePacket.{ServicePacket}
use Rattle.cv_memory.specs.declared.cv_change.CvChange.{CvChange}
use Rattle.cv_memory.specs.Hearing.{CvState}
use Rattle.programmer.specs.declared.task_result.TaskResult.{TaskResult}
use Rattle.programmer.specs.declared.task_state.TaskState.{TaskState}
use Rattle.programmer.specs.declared.task_state.Next.{Next}
use Rattle.programmer.specs.declared.task_state.Next.TheVariants.{Continued, Finished}
use Rattle.programmer.specs.Machine.{packet_of, next_of, after_next, result_in}
use Rattle.programming_track.specs.declared.packet_end.PacketEnd.{PacketEnd}
use Rattle.programming_track.specs.declared.programming_track.ProgrammingTrack.{ProgrammingTrack}
use Rattle.programming_track.specs.Completes.{Completes, before_results, changes_in, packets_in, results_in}
use Rattle.programming_track.specs.Tasks.{TaskRun, before_changes, change_on, run_behind, run_from, load_of, run_of, decoder_after}
use Rattle.programming_track.specs.Time.{elapsed_by, ends_within, micros_of, time_of}
use Rattle.programming_track.specs.Track.{waiting}
use Rattle.programming_track.proofs.Times.{adds, at, end, ends_add, ends_none, ends_one, next, none_some, passes, same_some}

lt_or_le : (a b : ℕ) → (a < b) ⊎ (b ≤ a)
lt_or_le a b = cases_lt a b

positive : (p : ServicePacket) → 0 < micros_of p
positive p = omega arith

-- the track after a packet, by what comes next
abbrev track_by : TaskResult → Next → Bool → Option CvState → ProgrammingTrack
track_by last next f d = at (after_next last next) f d 0

module _ (r : TaskState) (last : TaskResult) (f : Bool) (d : Option CvState) where
  abbrev start : ProgrammingTrack
  start = waiting (Some r) last f d

  abbrev behind : Option CvState
  behind = decoder_after d (packet_of r)

  abbrev change : Option CvChange
  change = change_on d (packet_of r)

  abbrev drawn : Next
  drawn = next_of r (load_of f d (packet_of r))

  packet_time : (total more m : ℕ) → m ≡ micros_of (packet_of r) → 0 < m → total ≡ m + more → elapsed_by total start ≡ elapsed_by more (track_by last drawn f behind)
  packet_time total more m is some sum =
      let parts : total ≡ suc (m - 1) + more = omega arith in
      let whole : suc (m - 1) ≡ max 1 (m - 0) = omega arith in
      ap (λ (n : ℕ). elapsed_by n start) parts
      ∙ adds (suc (m - 1)) more start
      ∙ ap (elapsed_by more) (passes last f d r (m - 1) 0 m is whole)

  packet_ends : (total more m : ℕ) → m ≡ micros_of (packet_of r) → 0 < m → total ≡ m + more → ends_within total start ≡ end last f d r ∷ ends_within more (track_by last drawn f behind)
  packet_ends total more m is some sum =
      let parts : total ≡ suc (m - 1) + more = omega arith in
      let whole : suc (m - 1) ≡ max 1 (m - 0) = omega arith in
      ap (λ (n : ℕ). ends_within n start) parts
      ∙ ends_add (suc (m - 1)) more start
      ∙ ap (λ (xs : List PacketEnd). xs ++ ends_within more (elapsed_by (suc (m - 1)) start)) (ends_one last f d r (m - 1) 0 m is whole)
      ∙ ap (λ (s : ProgrammingTrack). end last f d r ∷ ends_within more s) (passes last f d r (m - 1) 0 m is whole)

  packet_quiet : (k m : ℕ) → m ≡ micros_of (packet_of r) → k < m → ends_within k start ≡ []
  packet_quiet k m is less = let less_rest : k < max 1 (m - 0) = omega arith in ends_none last f d r k 0 m is less_rest

  shorter : (k total m : ℕ) → k < total → total ≡ m + 0 → k < m
  shorter k total m less sum = omega arith

  -- the last packet
  last_packet : (ended : TaskResult) → drawn ≡ Finished ended → Completes start (record { result = ended; sent = packet_of r ∷ []; changes = before_changes change []; decoder = behind })
  last_packet ended is =
      let m = micros_of (packet_of r) in
      let some = positive (packet_of r) in
      let total = time_of (packet_of r ∷ []) in
      let sum : total ≡ m + 0 = sum_by-cons micros_of (packet_of r) [] in
      record {
        track =
            packet_time total 0 m refl some sum
            ∙ ap (λ (x : Next). track_by last x f behind) is;
        packets = ap packets_in (packet_ends total 0 m refl some sum);
        changes = ap changes_in (packet_ends total 0 m refl some sum);
        results =
            ap results_in (packet_ends total 0 m refl some sum)
            ∙ ap (λ (x : Next). before_results (result_in x) []) is;
        before = λ k less. ap results_in (packet_quiet k m refl (shorter k total m less sum));
      }

  later : (k total m more : ℕ) → k < total → total ≡ m + more → m ≤ k → k - m < more
  later k total m more less sum high = omega arith

  parts_of : (k m : ℕ) → m ≤ k → k ≡ m + (k - m)
  parts_of k m high = omega arith

  -- a packet with others behind it
  not_last : (x : TaskState) (run : TaskRun) → drawn ≡ Continued x → Completes (waiting (Some x) last f behind) run → Completes start (record { result = run.result; sent = packet_of r ∷ run.sent; changes = before_changes change run.changes; decoder = run.decoder })
  not_last x run is rest =
      let m = micros_of (packet_of r) in
      let some = positive (packet_of r) in
      let more = time_of run.sent in
      let total = time_of (packet_of r ∷ run.sent) in
      let sum : total ≡ m + more = sum_by-cons micros_of (packet_of r) run.sent in
      record {
        track =
            packet_time total more m refl some sum
            ∙ ap (λ (y : Next). elapsed_by more (track_by last y f behind)) is ∙ rest.track;
        packets =
            ap packets_in (packet_ends total more m refl some sum)
            ∙ ap (λ (y : Next). packet_of r ∷ packets_in (ends_within more (track_by last y f behind))) is
            ∙ ap (λ (xs : List ServicePacket). packet_of r ∷ xs) rest.packets;
        changes =
            ap changes_in (packet_ends total more m refl some sum)
            ∙ ap (λ (y : Next). before_changes change (changes_in (ends_within more (track_by last y f behind)))) is
            ∙ ap (before_changes change) rest.changes;
        results =
            ap results_in (packet_ends total more m refl some sum)
            ∙ ap (λ (y : Next). before_results (result_in y) (results_in (ends_within more (track_by last y f behind)))) is
            ∙ rest.results;
        before = λ k less. by_time k (later k total m more less sum) (lt_or_le k m);
      } where
        by_time : (k : ℕ) → (micros_of (packet_of r) ≤ k → k - micros_of (packet_of r) < time_of run.sent) → (k < micros_of (packet_of r)) ⊎ (micros_of (packet_of r) ≤ k) → results_in (ends_within k start) ≡ []
        by_time k after (inl less) = ap results_in (packet_quiet k (micros_of (packet_of r)) refl less)
        by_time k after (inr high) =
            let m = micros_of (packet_of r) in
            ap results_in (packet_ends k (k - m) m refl (positive (packet_of r)) (parts_of k m high))
            ∙ ap (λ (y : Next). before_results (result_in y) (results_in (ends_within (k - m) (track_by last y f behind)))) is
            ∙ rest.before (k - m) (after high)

  by_rest : (n : ℕ) (run : TaskRun) (x : TaskState) (found : Option TaskRun) → drawn ≡ Continued x → run_of n x f behind ≡ found → ((other : TaskRun) → run_of n x f behind ≡ Some other → Completes (waiting (Some x) last f behind) other) → run_behind (packet_of r) change found ≡ Some run → Completes start run
  by_rest n run x None is e rest h = absurd (none_some run h)
  by_rest n run x (Some other) is e rest h = subst (Completes start) (same_some _ _ h) (not_last x other is (rest other e))

  by_next : (n : ℕ) (run : TaskRun) (next : Next) → drawn ≡ next → ((x : TaskState) (other : TaskRun) → run_of n x f behind ≡ Some other → Completes (waiting (Some x) last f behind) other) → run_behind (packet_of r) change (run_from next (λ x. run_of n x f behind) behind) ≡ Some run → Completes start run
  by_next n run (Finished ended) is rest h = subst (Completes start) (same_some _ _ h) (last_packet ended is)
  by_next n run (Continued x) is rest h = by_rest n run x (run_of n x f behind) is refl (rest x) h

pub in_time : (n : ℕ) (r : TaskState) (last : TaskResult) (f : Bool) (d : Option CvState) (run : TaskRun) → run_of n r f d ≡ Some run → Completes (waiting (Some r) last f d) run
in_time zero r last f d run e = absurd (none_some run e)
in_time (suc n) r last f d run e =
    by_next r last f d n run (next_of r (load_of f d (packet_of r))) refl (λ x other. in_time n x last f (decoder_after d (packet_of r)) other) e
