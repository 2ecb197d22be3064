-- Lists of calls, and what a station answers to them.
use Rattle.std.specs.Prelude.{ℕ, ◌≡◌, ◌⊎◌, Bool, true, nat_lt, IsTrue, List, [], ◌∷◌}
use Rattle.std.specs.List.{list_all}
use Rattle.refresh_ring.specs.declared.kind.Kind.{Kind}
use Rattle.station_core.specs.declared.call.Call.{Call}
use Rattle.station_core.specs.declared.call.Call.TheVariants.{Byte, Turn}
use Rattle.station_core.specs.declared.call.Step.{Step}
use Rattle.station_core.specs.declared.call.Step.TheVariants.{Quiet, Reply, Packet, Off}
use Rattle.station_core.specs.Moments.{IsFullCycle}
use Rattle.station_core.specs.Seen.{Seen, known_of}
use Rattle.station_core.specs.Station.{moved}
use Rattle.station_core.specs.Packets.{place_packet}
use Rattle.slot_table.specs.Entry.{IsSlot}

-- a byte comes on one of the lines
abbrev pub is_call : ℕ → Call → Bool
is_call lines (Byte line byte) = nat_lt line lines
is_call lines Turn = true

abbrev pub AreCalls : ℕ → List Call → Type 0
AreCalls lines calls = IsTrue (list_all (is_call lines) calls)

abbrev pub state_of : Seen → Call → Seen
state_of seen call = (moved seen call).state

abbrev pub answer_of : Seen → Call → Step
answer_of seen call = (moved seen call).answer

abbrev pub state_after : Seen → List Call → Seen
state_after seen [] = seen
state_after seen (call ∷ calls) = state_after (state_of seen call) calls

abbrev pub answers : Seen → List Call → List Step
answers seen [] = []
answers seen (call ∷ calls) = answer_of seen call ∷ answers (state_of seen call) calls

-- the packets in answers, in order
abbrev pub packets_in : List Step → List (List ℕ)
packets_in [] = []
packets_in (Packet packet ∷ steps) = packet ∷ packets_in steps
packets_in (Reply reply ∷ steps) = packets_in steps
packets_in (Quiet ∷ steps) = packets_in steps
packets_in (Off ∷ steps) = packets_in steps

-- some turn sends the packet of this kind for the entry that is in the slot at that turn
abbrev pub Sends : ℕ → Kind → Seen → List Call → Type 0
Sends slot kind seen [] = ⊥
Sends slot kind seen (Byte line byte ∷ calls) = Sends slot kind (state_of seen (Byte line byte)) calls
Sends slot kind seen (Turn ∷ calls) =
    (answer_of seen Turn ≡ Packet (place_packet seen.powered.desk slot kind)) ⊎ Sends slot kind (state_of seen Turn) calls

-- in a full refresh cycle of a slot each of its packets is sent
abbrev pub Covers : Seen → List Call → Type 0
Covers start calls = (slot : ℕ) (kind : Kind) → IsSlot slot → IsFullCycle slot (known_of start) calls → Sends slot kind start calls
