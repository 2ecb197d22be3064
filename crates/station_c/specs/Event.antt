-- The event of a description.
use Rattle.std.specs.Prelude.{ℕ, ◌==◌, ◌&&◌, nat_lt, Bool, if◌then◌else◌}
use Rattle.layout_core.specs.declared.event.Event.{Event}
use Rattle.layout_core.specs.declared.event.Event.TheVariants.{Byte, Turn, Noise}
use Rattle.layout_core.specs.Played.{is_event}
use Rattle.station_c.specs.declared.event.EventFields.{EventFields}

-- of kind 0 a byte, of kind 1 a turn, else noise; the other fields are ignored
abbrev pub event_of : EventFields → Event
event_of fields =
    if fields.kind == 0 then Byte fields.line fields.byte else
    (if fields.kind == 1 then Turn fields.missed else Noise fields.node fields.half)

-- it is of one of the three kinds, and an event of a layout with this number of lines and decoders
abbrev pub is_one : (lines nodes : ℕ) → EventFields → Bool
is_one lines nodes fields = nat_lt fields.kind 3 && is_event lines nodes (event_of fields)
