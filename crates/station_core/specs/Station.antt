-- What a byte and a turn make of a station, and what it answers.
use Rattle.std.specs.Prelude.{ℕ, List, [], ◌∷◌, ◌++◌, Option, Some, None, slice_set}
use Rattle.dcc_packet.specs.Sent.{idle_bytes, stop_all_bytes, accessory_bytes}
use Rattle.ln_frame.specs.Stream.{message_at_end}
use Rattle.ln_frame.specs.Unfinished.{unfinished_of}
use Rattle.ln_ops.specs.Message.{op_of}
use Rattle.ln_ops.specs.declared.op.Op.{Op}
use Rattle.ln_ops.specs.declared.reply.Reply.{Reply}
use Rattle.slot_table.specs.Desk.{Desk}
use Rattle.refresh_ring.specs.Jobs.{requests_in}
use Rattle.refresh_ring.specs.Picked.{Picked, turned}
use Rattle.refresh_ring.specs.declared.kind.Kind.{Kind}
use Rattle.refresh_ring.specs.declared.pick.Pick.{Pick}
use Rattle.refresh_ring.specs.declared.pick.Pick.TheVariants.{Off, StopAll, Idle, Place, Switch}
use Rattle.station_core.specs.declared.call.Call.{Call}
use Rattle.station_core.specs.declared.call.Call.TheVariants.{Byte, Turn}
use Rattle.station_core.specs.declared.call.Step.{Step}
use Rattle.station_core.specs.declared.call.Step.TheVariants as step
use Rattle.station_core.specs.Slots.{refreshed_slots, addresses}
use Rattle.station_core.specs.Seen.{Seen, scheduled, seen_with, line_of}
use Rattle.station_core.specs.After.{after, desk_after}
use Rattle.station_core.specs.Answer.{answer}
use Rattle.station_core.specs.Schedule.{after_places, schedule_asked}
use Rattle.station_core.specs.Packets.{place_packet}

-- the whole message that a byte ends on its line, if it ends one
abbrev pub message_ended : Seen → ℕ → ℕ → Option (List ℕ)
message_ended seen line byte = message_at_end (line_of seen line ++ byte ∷ [])

-- the station with this desk, its schedule going by it and these places changed
abbrev pub after_change : Seen → Desk → List (ℕ × Kind) → Seen
after_change seen desk places =
    let schedule = scheduled seen in
    let powered = seen.powered in
    seen_with seen.lines (record powered { desk = desk }) (after_places places (record schedule { slots = refreshed_slots desk }))

-- the station after a message: the desk, and the schedule, which goes by the new desk
abbrev pub after_op : Seen → Op → Seen
after_op seen op =
    let schedule = scheduled seen in
    seen_with seen.lines (after seen.powered op)
    (schedule_asked seen.powered.desk op (record schedule { slots = refreshed_slots (desk_after seen.powered.desk op) }))

-- a byte that ends no message leaves all but its line
abbrev pub after_message : Seen → Option (List ℕ) → Seen
after_message seen None = seen
after_message seen (Some message) = after_op seen (op_of message)

-- and answers nothing
abbrev pub answer_to_message : Seen → Option (List ℕ) → Option Reply
answer_to_message seen None = None
answer_to_message seen (Some message) = answer seen.powered (op_of message) (requests_in seen.jobs)

-- the station after a byte on a line: the other lines are as they were
abbrev pub after_byte : Seen → ℕ → ℕ → Seen
after_byte seen line byte =
    let moved = after_message seen (message_ended seen line byte) in
    record moved { lines = slice_set seen.lines line (unfinished_of (line_of seen line ++ byte ∷ [])) }

-- what it answers on that line
abbrev pub answer_to_byte : Seen → ℕ → ℕ → Option Reply
answer_to_byte seen line byte = answer_to_message seen (message_ended seen line byte)

-- the packet of what is sent next, made of the desk at that moment
abbrev pub packet_of : Desk → Pick → Option (List ℕ)
packet_of desk Off = None
packet_of desk StopAll = Some stop_all_bytes
packet_of desk Idle = Some idle_bytes
packet_of desk (Place slot kind) = Some (place_packet desk slot kind)
packet_of desk (Switch number closed on) = Some (accessory_bytes number closed on)

-- what the schedule makes of a turn
abbrev pub turn_of : Seen → Picked
turn_of seen = turned seen.powered.power (addresses seen.powered.desk) (scheduled seen)

-- a turn leaves the lines and the desk
abbrev pub after_turn : Seen → Seen
after_turn seen = seen_with seen.lines seen.powered (turn_of seen).state

abbrev pub packet_of_turn : Seen → Option (List ℕ)
packet_of_turn seen = packet_of seen.powered.desk (turn_of seen).answer

-- a call as one event, and its answer
pub record Moved : Type 0 where
  pub state : Seen
  pub answer : Step

abbrev pub replied : Option Reply → Step
replied None = step.Quiet
replied (Some reply) = step.Reply reply

abbrev pub sent : Option (List ℕ) → Step
sent None = step.Off
sent (Some packet) = step.Packet packet

-- what one call makes of a station, and what it answers
unfoldable pub moved : Seen → Call → Moved
moved seen (Byte line byte) = record { state = after_byte seen line byte; answer = replied (answer_to_byte seen line byte) }
moved seen Turn = record { state = after_turn seen; answer = sent (packet_of_turn seen) }
