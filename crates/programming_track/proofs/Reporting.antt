-- The changes that are reported are those of the decoder's variables.
use Rattle.std.proofs.Common.{◌≡◌, ℕ, zero, suc, ◌+◌, Bool, true, false, if◌then◌else◌, List, [], ◌∷◌, ◌++◌, Option, Some, None, nat_le, option_map, refl, ap, ◌∙◌}
use Rattle.service_mode.specs.declared.packet.ServicePacket.{ServicePacket}
use Rattle.cv_memory.specs.declared.cv_change.CvChange.{CvChange}
use Rattle.cv_memory.specs.Changes.{after_changes, after_some_change, change_by}
use Rattle.cv_memory.specs.Hearing.{CvState, heard}
use Rattle.programmer.specs.declared.task_state.TaskState.{TaskState}
use Rattle.programmer.specs.Machine.{packet_of}
use Rattle.programming_track.specs.declared.programming_track.ProgrammingTrack.{ProgrammingTrack}
use Rattle.programming_track.specs.Completes.{changes_in}
use Rattle.programming_track.specs.Tasks.{before_changes, change_on, decoder_after}
use Rattle.programming_track.specs.Time.{elapsed_by, end_by, ended_by, ends_by, ends_within, micros_of, ticked}

values_of : Option CvState → Option (List ℕ)
values_of decoder = option_map (λ d. d.values) decoder

changed_by : List CvChange → Option CvState → Option (List ℕ)
changed_by changes decoder = option_map (λ d. after_changes d.filed d.values changes) decoder

one_before : (filed values : List ℕ) (one : Option CvChange) (changes : List CvChange)
    → after_changes filed (after_some_change filed values one) changes ≡ after_changes filed values (before_changes one changes)
one_before filed values None changes = refl
one_before filed values (Some one) changes = refl

module _ (values : (d : CvState) (p : Option ServicePacket) → (heard d p).values ≡ after_some_change d.filed d.values (change_by d p)) (file : (d : CvState) (p : Option ServicePacket) → (heard d p).filed ≡ d.filed) where
  -- a packet, and what is reported after it
  packet_reported : (decoder : Option CvState) (packet : ServicePacket) (changes : List CvChange)
      → changed_by changes (decoder_after decoder packet) ≡ changed_by (before_changes (change_on decoder packet) changes) decoder
  unfolding changed_by
  packet_reported None packet changes = refl
  packet_reported (Some d) packet changes =
      ap (λ (filed : List ℕ). Some (after_changes filed (heard d (Some packet)).values changes)) (file d (Some packet))
      ∙ ap (λ (xs : List ℕ). Some (after_changes d.filed xs changes)) (values d (Some packet))
      ∙ ap Some (one_before d.filed d.values (change_by d (Some packet)) changes)

  abbrev IsReported : (micros : ℕ) → Type 0
  IsReported micros = (s : ProgrammingTrack) → values_of (elapsed_by micros s).decoder ≡ changed_by (changes_in (ends_within micros s)) s.decoder

  abbrev later : ProgrammingTrack → ProgrammingTrack
  later s = record { programmer = s.programmer; decoder = s.decoder; fails = s.fails; elapsed = s.elapsed + 1 }

  reported_by : (micros : ℕ) (s : ProgrammingTrack) (state : TaskState) (ends : Bool) → IsReported micros
      → values_of (elapsed_by micros (if ends then ended_by s state else later s)).decoder
      ≡ changed_by (changes_in ((if ends then end_by s state ∷ [] else []) ++ ends_within micros (if ends then ended_by s state else later s))) s.decoder
  reported_by micros s state true rest = rest (ended_by s state) ∙ packet_reported s.decoder (packet_of state) (changes_in (ends_within micros (ended_by s state)))
  reported_by micros s state false rest = rest (later s)

  reported_in_tick : (micros : ℕ) (s : ProgrammingTrack) (under_way : Option TaskState) → IsReported micros
      → values_of (elapsed_by micros (ticked s under_way)).decoder ≡ changed_by (changes_in (ends_by s under_way ++ ends_within micros (ticked s under_way))) s.decoder
  reported_in_tick micros s None rest = rest s
  reported_in_tick micros s (Some state) rest = reported_by micros s state (nat_le (micros_of (packet_of state)) (s.elapsed + 1)) rest

  none_reported : (decoder : Option CvState) → values_of decoder ≡ changed_by [] decoder
  unfolding values_of changed_by
  none_reported None = refl
  none_reported (Some d) = refl

  pub reported : (micros : ℕ) (s : ProgrammingTrack) → option_map (λ d. d.values) (elapsed_by micros s).decoder ≡ option_map (λ d. after_changes d.filed d.values (changes_in (ends_within micros s))) s.decoder
  unfolding values_of changed_by
  reported zero s = none_reported s.decoder
  reported (suc micros) s = reported_in_tick micros s s.programmer.under_way (reported micros)
