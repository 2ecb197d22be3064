-- How long packets take at most.
use Rattle.std.proofs.Common.{ℕ, ◌*◌, ◌≤◌, List, [], ◌∷◌, length, arith}
use Rattle.std.proofs.lemmas.List.Sums.{sum_by-cons}
use Rattle.half_bits.specs.Halves.{duration_of}
use Rattle.service_mode.specs.declared.instruction.Instruction.TheVariants.{VerifyByte, WriteByte, VerifyBit, WriteBit}
use Rattle.service_mode.specs.declared.packet.ServicePacket.{ServicePacket}
use Rattle.service_mode.specs.declared.packet.ServicePacket.TheVariants.{Reset, Direct}
use Rattle.service_mode.specs.Spelling.{bytes_of}
use Rattle.programming_track.specs.Time.{micros_of, time_of}

module _ (longest : (packet : List ℕ) → length packet ≤ 5 → duration_of packet ≤ 10740) where
  few_bytes : (p : ServicePacket) → length (bytes_of p) ≤ 5
  few_bytes Reset = omega arith
  few_bytes (Direct (VerifyByte a x)) = omega arith
  few_bytes (Direct (WriteByte a x)) = omega arith
  few_bytes (Direct (VerifyBit a i x)) = omega arith
  few_bytes (Direct (WriteBit a i x)) = omega arith

  short_packet : (p : ServicePacket) → micros_of p ≤ 11436
  short_packet p = omega (arith, longest (bytes_of p) (few_bytes p))

  pub short : (packets : List ServicePacket) → time_of packets ≤ 11436 * length packets
  short [] = omega arith
  short (p ∷ packets) = omega (arith, sum_by-cons micros_of p packets, short_packet p, short packets)
