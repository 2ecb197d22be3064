-- How many packets end in a time.
use Rattle.std.proofs.Common.{◌≡◌, ◌⊎◌, ℕ, zero, suc, ◌+◌, ◌*◌, ◌≤◌, Bool, true, false, List, [], ◌∷◌, ◌++◌, length, Option, Some, None, inl, inr, refl, arith, if◌then◌else◌, nat_le}
use Rattle.std.proofs.lemmas.Bool.{leb-true}
use Rattle.half_bits.specs.Halves.{duration_of}
use Rattle.service_mode.specs.declared.instruction.Instruction.TheVariants.{VerifyByte, WriteByte, VerifyBit, WriteBit}
use Rattle.service_mode.specs.declared.packet.ServicePacket.{ServicePacket}
use Rattle.service_mode.specs.declared.packet.ServicePacket.TheVariants.{Reset, Direct}
use Rattle.service_mode.specs.Spelling.{bytes_of}
use Rattle.programmer.specs.declared.task_state.TaskState.{TaskState}
use Rattle.programmer.specs.Machine.{packet_of}
use Rattle.programming_track.specs.declared.programming_track.ProgrammingTrack.{ProgrammingTrack}
use Rattle.programming_track.specs.Time.{end_by, ended_by, ends_by, ends_within, micros_of, ticked}

module _ (shortest : (packet : List ℕ) → 3 ≤ length packet → 5124 ≤ duration_of packet) where
  some_bytes : (p : ServicePacket) → 3 ≤ length (bytes_of p)
  some_bytes Reset = omega arith
  some_bytes (Direct (VerifyByte a x)) = omega arith
  some_bytes (Direct (WriteByte a x)) = omega arith
  some_bytes (Direct (VerifyBit a i x)) = omega arith
  some_bytes (Direct (WriteBit a i x)) = omega arith

  long_packet : (p : ServicePacket) → 5820 ≤ micros_of p
  long_packet p = omega (arith, shortest (bytes_of p) (some_bytes p))

  -- at most so much of a packet has elapsed, or as much as the shortest takes
  abbrev HasPassed : (most : ℕ) → ProgrammingTrack → Type 0
  HasPassed most s = (s.elapsed ≤ most) ⊎ (5820 ≤ most)

  abbrev IsFew : (micros : ℕ) → Type 0
  IsFew micros = (s : ProgrammingTrack) (most : ℕ) → HasPassed most s → 5820 * length (ends_within micros s) ≤ micros + most

  abbrev later : ProgrammingTrack → ProgrammingTrack
  later s = record { programmer = s.programmer; decoder = s.decoder; fails = s.fails; elapsed = s.elapsed + 1 }

  few_by : (micros most : ℕ) (s : ProgrammingTrack) (state : TaskState) (ends : Bool) → nat_le (micros_of (packet_of state)) (s.elapsed + 1) ≡ ends → HasPassed most s → IsFew micros
      → 5820 * length ((if ends then end_by s state ∷ [] else []) ++ ends_within micros (if ends then ended_by s state else later s)) ≤ suc micros + most
  few_by micros most s state true e within_most few =
      let rest : 5820 * length (ends_within micros (ended_by s state)) ≤ micros + 0 = few (ended_by s state) 0 (inl (omega arith)) in
      elim within_most [
        | inl within ↦ omega (arith, rest, leb-true (micros_of (packet_of state)) (s.elapsed + 1) e, long_packet (packet_of state), within)
        | inr enough ↦ omega (arith, rest, enough)
      ]
  few_by micros most s state false e within_most few =
      let next : HasPassed (most + 1) (later s) = elim within_most [
        | inl within ↦ inl (omega (arith, within))
        | inr enough ↦ inr (omega (arith, enough))
      ] in
      omega (arith, few (later s) (most + 1) next)

  few_in_tick : (micros most : ℕ) (s : ProgrammingTrack) (under_way : Option TaskState) → HasPassed most s → IsFew micros
      → 5820 * length (ends_by s under_way ++ ends_within micros (ticked s under_way)) ≤ suc micros + most
  few_in_tick micros most s None within_most few = omega (arith, few s most within_most)
  few_in_tick micros most s (Some state) within_most few = few_by micros most s state (nat_le (micros_of (packet_of state)) (s.elapsed + 1)) refl within_most few

  are_few : (micros : ℕ) → IsFew micros
  are_few zero s most within_most = omega arith
  are_few (suc micros) s most within_most = few_in_tick micros most s s.programmer.under_way within_most (are_few micros)

  pub ends_are_few : (micros : ℕ) (s : ProgrammingTrack) → 5820 * length (ends_within micros s) ≤ micros + 5820
  ends_are_few micros s = are_few micros s 5820 (inr (omega arith))
