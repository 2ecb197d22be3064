-- What a message makes of the schedule: the changed places that are to wait, and switch requests.
use Rattle.std.specs.Prelude.{ℕ, Bool, nat_le, if◌then◌else◌, List, [], ◌∷◌, Option, Some, None, Result, Ok, Err}
use Rattle.dcc_packet.specs.Sent.{last_switch}
use Rattle.ln_ops.specs.declared.op.Op.{Op}
use Rattle.ln_ops.specs.declared.op.Op.TheVariants.{Speed, Dirf, Snd, SwReq, SwAck, SlotStat, Move, SlotWrite, Imm}
use Rattle.slot_table.specs.Desk.{Desk}
use Rattle.slot_table.specs.Writes.{can_field, write_answer}
use Rattle.slot_table.specs.declared.field.Field.{Field}
use Rattle.slot_table.specs.declared.field.Field.TheVariants as field
use Rattle.slot_table.specs.declared.fault.SlotFault.{SlotFault}
use Rattle.refresh_ring.specs.Scheduled.{Scheduled, after_changed, with_request}
use Rattle.refresh_ring.specs.declared.kind.Kind.{Kind}
use Rattle.refresh_ring.specs.declared.kind.Kind.TheVariants as kind
use Rattle.station_core.specs.declared.schedule.Change.{Change}
use Rattle.station_core.specs.declared.schedule.Change.TheVariants.{Nothing, Speed as SpeedAlone, SpeedAndGroupOne, GroupTwo, GroupThree, All}
use Rattle.station_core.specs.Answer.{move_answer}
use Rattle.station_core.specs.Immediate.{more_of}
use Rattle.station_core.specs.declared.immediate.More.{More}

-- the places of a slot that a change names, in order of kind
abbrev pub places_with : ℕ → Change → List (ℕ × Kind)
places_with n Nothing = []
places_with n SpeedAlone = (n, kind.Speed) ∷ []
places_with n SpeedAndGroupOne = (n, kind.Speed) ∷ (n, kind.GroupOne) ∷ []
places_with n GroupTwo = (n, kind.GroupTwo) ∷ []
places_with n GroupThree = (n, kind.GroupThree) ∷ []
places_with n All = (n, kind.Speed) ∷ (n, kind.GroupOne) ∷ (n, kind.GroupTwo) ∷ (n, kind.GroupThree) ∷ []

-- which packets are made of a field
abbrev pub change_of : Field → Change
change_of (field.Speed spd) = SpeedAlone
change_of (field.Dirf dirf) = SpeedAndGroupOne
change_of (field.Snd snd) = GroupTwo
change_of (field.More more) = GroupThree
change_of (field.Stat stat) = All

abbrev pub of_field : Desk → ℕ → Field → List (ℕ × Kind)
of_field desk n written = if can_field desk n written then places_with n (change_of written) else []

abbrev pub of_slot : Result ℕ SlotFault → List (ℕ × Kind)
of_slot (Ok n) = places_with n All
of_slot (Err fault) = []

abbrev pub of_write : ℕ → Result (Unit {0}) SlotFault → List (ℕ × Kind)
of_write n (Ok done) = places_with n All
of_write n (Err fault) = []

abbrev pub of_more : Desk → Option More → List (ℕ × Kind)
of_more desk (Some more) = of_field desk more.slot (field.More more.bits)
of_more desk None = []

-- the places that a message changes, where it is accepted, in the order in which they are to wait
-- (own)
abbrev pub changed_places : Desk → Op → List (ℕ × Kind)
changed_places desk (Speed slot spd) = of_field desk slot (field.Speed spd)
changed_places desk (Dirf slot dirf) = of_field desk slot (field.Dirf dirf)
changed_places desk (Snd slot snd) = of_field desk slot (field.Snd snd)
changed_places desk (SlotStat slot stat) = of_field desk slot (field.Stat stat)
changed_places desk (Move src dest) = of_slot (move_answer desk src dest)
changed_places desk (SlotWrite fields) = of_write fields.slot (write_answer desk fields)
changed_places desk (Imm count im1 im2 im3 im4 im5) = of_more desk (more_of desk count im1 im2 im3 im4 im5)
changed_places desk op = []

-- the schedule after these places were changed: each waits, where its slot is refreshed
abbrev pub after_places : List (ℕ × Kind) → Scheduled → Scheduled
after_places [] s = s
after_places (place ∷ places) s = after_places places (after_changed place.0 place.1 s)

-- a switch request waits, where there is such a switch and room
abbrev pub after_request : ℕ → Bool → Bool → Scheduled → Scheduled
after_request number closed on s = record s { jobs = if nat_le number last_switch then with_request number closed on s.jobs else s.jobs }

-- what a message makes of a schedule that goes by the desk after it; the desk here is the one
-- before it
abbrev pub schedule_asked : Desk → Op → Scheduled → Scheduled
schedule_asked desk (SwReq number closed on) s = after_request number closed on s
schedule_asked desk (SwAck number closed on) s = after_request number closed on s
schedule_asked desk op s = after_places (changed_places desk op) s
