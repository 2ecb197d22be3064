-- The packets that a turn sends have 3 to 5 bytes, and a right check.
use Rattle.std.proofs.Common.{ℕ, ◌≤◌, Bool, List, [], ◌∷◌, ◌++◌, length, IsTrue, IfSome, refl, ◌∙◌, arith, eq-eqb}
use Rattle.std.proofs.lemmas.List.{length-append}
use Rattle.std.proofs.lemmas.List.Sums.{fold_push}
use Rattle.std.proofs.lemmas.Option.{IfSome_then}
use Rattle.std.specs.Int.Bits.{bit_xor, xor_self}
use Rattle.dcc_packet.specs.declared.address.Address.{Address}
use Rattle.dcc_packet.specs.declared.address.Address.TheVariants.{Short, Long}
use Rattle.dcc_packet.specs.declared.steps.Steps.{Steps}
use Rattle.dcc_packet.specs.declared.steps.Steps.TheVariants.{S14, S28, S128}
use Rattle.dcc_packet.specs.declared.steps.Motion.{Motion}
use Rattle.dcc_packet.specs.Address.{address_bytes}
use Rattle.dcc_packet.specs.Form.{with_check, to_decoder}
use Rattle.dcc_packet.specs.Packet.{is_checked, xor_of}
use Rattle.dcc_packet.specs.Sent.{speed_bytes}
use Rattle.refresh_ring.specs.declared.kind.Kind.{Kind}
use Rattle.refresh_ring.specs.declared.kind.Kind.TheVariants.{Speed, GroupOne, GroupTwo, GroupThree}
use Rattle.refresh_ring.specs.declared.pick.Pick.{Pick}
use Rattle.refresh_ring.specs.declared.pick.Pick.TheVariants.{Off, StopAll, Idle, Place, Switch}
use Rattle.slot_table.specs.Desk.{Desk}
use Rattle.slot_table.specs.Entry.{Entry}
use Rattle.station_core.specs.Station.{packet_of, packet_of_turn, turn_of}
use Rattle.station_core.specs.Packets.{address_sent, entry_packet}
use Rattle.station_core.specs.Seen.{Seen}

record IsShort (packet : List ℕ) : Type 0 where
  some : 3 ≤ length packet
  few : length packet ≤ 5
  right : IsTrue (is_checked packet)

checked : (body : List ℕ) → IsTrue (is_checked (with_check body))
checked body = eq-eqb _ _ (fold_push bit_xor 0 body (xor_of body) ∙ xor_self (xor_of body))

sealed : (body : List ℕ) → 2 ≤ length body → length body ≤ 4 → IsShort (with_check body)
sealed body some few =
    let size = length-append body (xor_of body ∷ []) in
    record { some = omega (arith, size, some); few = omega (arith, size, few); right = checked body }

no_address : (first second : ℕ) → IsShort (with_check (first ∷ second ∷ []))
no_address first second = sealed (first ∷ second ∷ []) (omega arith) (omega arith)

one_byte : (address : Address) (byte : ℕ) → IsShort (to_decoder address (byte ∷ []))
one_byte (Short number) byte = sealed (number ∷ byte ∷ []) (omega arith) (omega arith)
one_byte (Long number) byte = sealed (address_bytes (Long number) ++ byte ∷ []) (omega arith) (omega arith)

two_bytes : (address : Address) (first second : ℕ) → IsShort (to_decoder address (first ∷ second ∷ []))
two_bytes (Short number) first second = sealed (number ∷ first ∷ second ∷ []) (omega arith) (omega arith)
two_bytes (Long number) first second = sealed (address_bytes (Long number) ++ first ∷ second ∷ []) (omega arith) (omega arith)

speed : (address : Address) (steps : Steps) (motion : Motion) (forward f0 : Bool) → IsShort (speed_bytes address steps motion forward f0)
speed address S14 motion forward f0 = one_byte address _
speed address S28 motion forward f0 = one_byte address _
speed address S128 motion forward f0 = two_bytes address _ _

of_entry : (kind : Kind) (address : ℕ) (e : Entry) → IsShort (entry_packet kind address e)
of_entry Speed address e = speed (address_sent address) _ _ _ _
of_entry GroupOne address e = one_byte (address_sent address) _
of_entry GroupTwo address e = one_byte (address_sent address) _
of_entry GroupThree address e = one_byte (address_sent address) _

of_pick : (desk : Desk) (pick : Pick) → IfSome (packet_of desk pick) IsShort
of_pick desk Off = tt
of_pick desk StopAll = record { some = omega arith; few = omega arith; right = refl }
of_pick desk Idle = record { some = omega arith; few = omega arith; right = refl }
of_pick desk (Place slot kind) = of_entry kind _ _
of_pick desk (Switch number closed on) = no_address _ _

of_turn : (seen : Seen) → IfSome (packet_of_turn seen) IsShort
of_turn seen = of_pick seen.powered.desk (turn_of seen).answer

pub some : (seen : Seen) → IfSome (packet_of_turn seen) (λ packet. 3 ≤ length packet)
some seen = IfSome_then (packet_of_turn seen) (of_turn seen) (λ bytes h. h.some)

pub few : (seen : Seen) → IfSome (packet_of_turn seen) (λ packet. length packet ≤ 5)
few seen = IfSome_then (packet_of_turn seen) (of_turn seen) (λ bytes h. h.few)

pub right : (seen : Seen) → IfSome (packet_of_turn seen) (λ packet. IsTrue (is_checked packet))
right seen = IfSome_then (packet_of_turn seen) (of_turn seen) (λ bytes h. h.right)
