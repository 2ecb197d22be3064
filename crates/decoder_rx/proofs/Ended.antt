-- After a packet two one halves are counted: those of the one that closed it.
use Rattle.std.proofs.Common.{◌≡◌, ℕ, nat_lt, ◌*◌, ◌+◌, ◌++◌, ◌∷◌, [], Bool, true, false, List, Option, Some, None, if◌then◌else◌, refl, subst, sym}
use Rattle.std.specs.Prelude.{IfSome}
use Rattle.dcc_packet.specs.Wave.{bit_of, CompletesWave}
use Rattle.decoder_rx.specs.Position.{Position, Hunting, Start, InBit}
use Rattle.decoder_rx.specs.Table.{moved, given_by, given, after, checked}
use Rattle.decoder_rx.specs.Reading.{IsRight, Reads}
use Rattle.decoder_rx.proofs.Hearing.{counted}

at_a_full_byte : (more : Bool) (going_on : Position) (packet : Option (List ℕ)) → IfSome (if more then None else packet) (λ _. (if more then going_on else Hunting 2) ≡ Hunting 2)
at_a_full_byte true going_on packet = tt
at_a_full_byte false going_on None = tt
at_a_full_byte false going_on (Some packet) = refl

pub two_counted : (position : Position) (bit : Option Bool) → IfSome (given_by position bit) (λ _. moved position bit ≡ Hunting 2)
two_counted position None = tt
two_counted position (Some false) = tt
two_counted (Hunting ones) (Some true) = tt
two_counted Start (Some true) = tt
two_counted (InBit bytes byte bits None) (Some true) = tt
two_counted (InBit bytes byte bits (Some false)) (Some true) = tt
two_counted (InBit bytes byte bits (Some true)) (Some true) = at_a_full_byte (nat_lt bits 8) (InBit bytes (2 * byte + 1) (bits + 1) None) (checked (bytes ++ byte ∷ []))

-- so the next packet needs 18 more
pub next : (position : Position) (half : ℕ) (first packet halves : List ℕ) → given position half ≡ Some first → IsRight packet → CompletesWave 2 packet halves → Reads (after position half) halves packet
next position half first packet halves is right wave =
    let two : after position half ≡ Hunting 2 = subst (λ (o : Option (List ℕ)). IfSome o (λ _. after position half ≡ Hunting 2)) is (two_counted position (bit_of half)) in
    subst (λ (p : Position). Reads p halves packet) (sym two) (counted 2 packet halves right wave)
