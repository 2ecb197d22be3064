-- The track time of events, and the turns that begin in it.
use Rattle.std.specs.Prelude.{ℕ, ◌+◌, Bool, true, false, List, [], ◌∷◌, ◌++◌}
use Rattle.bus.specs.declared.event.Event.{Event}
use Rattle.bus.specs.declared.event.Event.TheVariants.{Reports, Programs, Elapses, Turn}
use Rattle.bus.specs.declared.outcome.Outcome.{Outcome}
use Rattle.bus.specs.declared.outcome.Outcome.TheVariants.{TurnBegan}
use Rattle.bus.specs.Bus.{BusState, after_event, duration}

-- the microseconds of track time that elapse in an event
abbrev pub micros_of : BusState → Event → ℕ
micros_of bus (Elapses micros missed) = micros
micros_of bus (Turn missed) = bus.remaining
micros_of bus other = 0

abbrev pub micros_in : BusState → List Event → ℕ
micros_in bus [] = 0
micros_in bus (event ∷ events) = micros_of bus event + micros_in (after_event bus event) events

-- the durations of the turns that began, in order
abbrev pub durations_in : Outcome → List ℕ
durations_in (TurnBegan packet) = duration packet ∷ []
durations_in other = []

abbrev pub turn_durations : List Outcome → List ℕ
turn_durations [] = []
turn_durations (outcome ∷ all) = durations_in outcome ++ turn_durations all

-- time elapses, or it is an event of a device beside the station: no event of a client
abbrev pub is_time : Event → Bool
is_time (Elapses micros missed) = true
is_time (Turn missed) = true
is_time (Reports message) = true
is_time (Programs packet change) = true
is_time other = false
