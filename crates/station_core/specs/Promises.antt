-- What holds of every list of calls, beside coverage: changes first, and switches twice, in order.
use Rattle.std.specs.Prelude.{ℕ, ◌≡◌, ◌+◌, ◌*◌, ◌/◌, ◌≤◌, ◌==◌, Bool, true, false, Contains, if◌then◌else◌, List, [], ◌∷◌, ◌++◌, Option, Some, None}
use Rattle.std.specs.List.{filter}
use Rattle.dcc_packet.specs.Sent.{accessory_bytes}
use Rattle.ln_ops.specs.Message.{op_of}
use Rattle.ln_ops.specs.declared.op.Op.{Op}
use Rattle.ln_ops.specs.declared.op.Op.TheVariants.{SwReq, SwAck}
use Rattle.slot_table.specs.Entry.{IsSlot}
use Rattle.refresh_ring.specs.Jobs.{requests_in, sends_ahead}
use Rattle.refresh_ring.specs.Left.{turns_to_empty}
use Rattle.refresh_ring.specs.Sent.{to_send}
use Rattle.refresh_ring.specs.declared.kind.Kind.{Kind}
use Rattle.refresh_ring.specs.declared.pick.Pick.{Pick}
use Rattle.refresh_ring.specs.declared.pick.Pick.TheVariants.{Switch}
use Rattle.refresh_ring.specs.declared.pick.Power.TheVariants.{Running}
use Rattle.station_core.specs.After.{desk_after}
use Rattle.station_core.specs.Answer.{is_taken}
use Rattle.station_core.specs.Schedule.{changed_places}
use Rattle.station_core.specs.Moments.{AtEveryMoment, IsLive, turns_in}
use Rattle.station_core.specs.Station.{after_op, message_ended}
use Rattle.station_core.specs.Powered.{PoweredDesk}
use Rattle.station_core.specs.Refreshed.{is_refreshed}
use Rattle.station_core.specs.Runs.{state_of, state_after, answers, packets_in, Sends}
use Rattle.station_core.specs.Seen.{Seen, known_of}
use Rattle.station_core.specs.declared.call.Call.{Call}
use Rattle.station_core.specs.declared.call.Call.TheVariants.{Byte, Turn}

-- changes first: a place that waits with n sends ahead is sent within four turns for each of them
-- and four more
abbrev pub ChangesFirst : Seen → List Call → Type 0
ChangesFirst start calls = (slot : ℕ) (kind : Kind) (ahead : ℕ) → IsSlot slot → sends_ahead slot kind start.jobs ≡ Some ahead
    → AtEveryMoment (IsLive slot) (known_of start) calls → 4 * (ahead + 1) ≤ turns_in calls → Sends slot kind start calls

-- What was changed waits: each place that a message changes, if its slot is refreshed then. A
-- message that is refused changes none.
abbrev pub ChangesWait : Seen → Op → Type 0
ChangesWait seen op = (slot : ℕ) (kind : Kind) → IsSlot slot → Contains (changed_places seen.powered.desk op) (slot, kind)
    → is_refreshed (desk_after seen.powered.desk op) slot ≡ true → (ahead : ℕ) × (sends_ahead slot kind (after_op seen op).jobs ≡ Some ahead)

-- S-9.2.1, address partitions: the packet of a switch begins with 10AAAAAA, any other packet does
-- not
abbrev pub is_accessory : List ℕ → Bool
is_accessory [] = false
is_accessory (first ∷ rest) = first / 64 == 2

-- the packets of switches in answers, in order
abbrev pub switches_sent : Seen → List Call → List (List ℕ)
switches_sent start calls = filter is_accessory (packets_in (answers start calls))

-- the packet of a switch that was asked for
abbrev pub packet_for : Pick → List (List ℕ)
packet_for (Switch number closed on) = accessory_bytes number closed on ∷ []
packet_for pick = []

abbrev pub packets_for : List Pick → List (List ℕ)
packets_for [] = []
packets_for (pick ∷ picks) = packet_for pick ++ packets_for picks

-- an accepted request, twice
abbrev pub twice_if : Bool → Pick → List Pick
twice_if taken pick = if taken then pick ∷ pick ∷ [] else []

-- the requests that a message makes, where they are accepted
abbrev pub asked_by_op : Seen → Op → List Pick
asked_by_op seen (SwReq number closed on) = twice_if (is_taken number (requests_in seen.jobs)) (Switch number closed on)
asked_by_op seen (SwAck number closed on) = twice_if (is_taken number (requests_in seen.jobs)) (Switch number closed on)
asked_by_op seen op = []

abbrev pub asked_by_message : Seen → Option (List ℕ) → List Pick
asked_by_message seen None = []
asked_by_message seen (Some message) = asked_by_op seen (op_of message)

abbrev pub asked_by : Seen → Call → List Pick
asked_by seen (Byte line byte) = asked_by_message seen (message_ended seen line byte)
asked_by seen Turn = []

-- each accepted request of these calls, twice, in order
abbrev pub switches_asked : Seen → List Call → List Pick
switches_asked seen [] = []
switches_asked seen (call ∷ calls) = asked_by seen call ++ switches_asked (state_of seen call) calls

-- switches twice, in order: the packets of switches that were sent, and then those that are still
-- to send, are those that were to send, and then that of each accepted request twice
abbrev pub SwitchesInOrder : Seen → List Call → Type 0
SwitchesInOrder start calls =
    switches_sent start calls ++ packets_for (to_send (state_after start calls).jobs)
    ≡ packets_for (to_send start.jobs) ++ packets_for (switches_asked start calls)

abbrev pub IsRunning : PoweredDesk → Type 0
IsRunning powered = powered.power ≡ Running

-- the front of a list
abbrev pub IsFrontOf : List (List ℕ) → List (List ℕ) → Type 0
IsFrontOf front all = (rest : List (List ℕ)) × (front ++ rest ≡ all)

-- and within 2,160 turns, enough to empty any queue, while power runs all that was to send was sent
abbrev pub SwitchesAreSent : Seen → List Call → Type 0
SwitchesAreSent start calls =
    AtEveryMoment IsRunning (known_of start) calls → turns_to_empty ≤ turns_in calls → IsFrontOf (packets_for (to_send start.jobs)) (switches_sent start calls)
