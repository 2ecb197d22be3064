-- The events of a layout, as its station sees them, and the nodes that noise names.
use Rattle.std.specs.Prelude.{ℕ, ◌≡◌, ◌==◌, false, List, [], ◌∷◌, ◌++◌}
use Rattle.station_core.specs.declared.call.Call.{Call}
use Rattle.station_core.specs.declared.call.Call.TheVariants.{Byte as ByteCall, Turn as TurnCall}
use Rattle.layout_core.specs.declared.event.Event.{Event}
use Rattle.layout_core.specs.declared.event.Event.TheVariants.{Byte, Turn, Noise}

-- an event is at most one call of the station; noise does not concern it
abbrev pub calls_of : Event → List Call
calls_of (Byte line byte) = ByteCall line byte ∷ []
calls_of (Turn missed) = TurnCall ∷ []
calls_of (Noise node half) = []

abbrev pub calls_in : List Event → List Call
calls_in [] = []
calls_in (event ∷ events) = calls_of event ++ calls_in events

-- no noise of these names node i
abbrev pub NoNoise : ℕ → List Event → Type 0
NoNoise i [] = Unit {0}
NoNoise i (Byte line byte ∷ events) = NoNoise i events
NoNoise i (Turn missed ∷ events) = NoNoise i events
NoNoise i (Noise node half ∷ events) = ((node == i) ≡ false) × NoNoise i events
