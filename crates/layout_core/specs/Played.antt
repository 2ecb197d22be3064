-- The effect of events on the station of a layout, and its answers to them.
use Rattle.std.specs.Prelude.{ℕ, Bool, true, nat_lt, IsTrue, List, [], ◌∷◌}
use Rattle.std.specs.List.{list_all}
use Rattle.station_core.specs.declared.call.Call.TheVariants.{Byte as ByteCall, Turn as TurnCall}
use Rattle.station_core.specs.declared.call.Step.{Step}
use Rattle.station_core.specs.declared.call.Step.TheVariants.{Quiet}
use Rattle.station_core.specs.Runs.{answer_of, state_after}
use Rattle.station_core.specs.Seen.{Seen}
use Rattle.layout_core.specs.declared.event.Event.{Event}
use Rattle.layout_core.specs.declared.event.Event.TheVariants.{Byte, Turn, Noise}
use Rattle.layout_core.specs.Events.{calls_of}

-- a byte is received on one of the lines, and noise is heard by one of the nodes
abbrev pub is_event : (lines nodes : ℕ) → Event → Bool
is_event lines nodes (Byte line byte) = nat_lt line lines
is_event lines nodes (Turn missed) = true
is_event lines nodes (Noise node half) = nat_lt node nodes

abbrev pub AreEvents : (lines nodes : ℕ) → List Event → Type 0
AreEvents lines nodes events = IsTrue (list_all (is_event lines nodes) events)

-- the station after an event
abbrev pub after_event : Seen → Event → Seen
after_event seen event = state_after seen (calls_of event)

abbrev pub after_events : Seen → List Event → Seen
after_events seen [] = seen
after_events seen (event ∷ events) = after_events (after_event seen event) events

-- its answer; none to noise
abbrev pub answer_to : Seen → Event → Step
answer_to seen (Byte line byte) = answer_of seen (ByteCall line byte)
answer_to seen (Turn missed) = answer_of seen TurnCall
answer_to seen (Noise node half) = Quiet

abbrev pub answers_to : Seen → List Event → List Step
answers_to seen [] = []
answers_to seen (event ∷ events) = answer_to seen event ∷ answers_to (after_event seen event) events
