-- The main track, beside a programming track.
use Rattle.std.specs.Prelude.{ℕ, ◌≡◌, false, List}
use Rattle.bus.specs.Bus.{BusState}
use Rattle.bus_server.specs.Repeats.{inputs_of}
use Rattle.bus_server.specs.Running.{Round, RunsRounds, logged_in}
use Rattle.bus_server.specs.ServerState.{ServerState, events_of}

-- a bus, but for whether there is a programmer beside it
abbrev pub without_programmer : BusState → BusState
without_programmer bus =
    let options = bus.options in
    record bus { options = record options { has_programmer = false } }

-- Two servers have the same main track: the same bus, with its station and its time, the same decoders
-- under the same names, the same railway, and they draw the same losses. Each may have a programming
-- track, or none.
pub record IsSameMainTrack (a b : ServerState) : Type 0 where
  pub bus : without_programmer b.bus ≡ without_programmer a.bus
  pub nodes : b.nodes ≡ a.nodes
  pub names : b.names ≡ a.names
  pub railway : b.railway ≡ a.railway
  pub losses : b.losses ≡ a.losses

-- Nothing of a programming track has an effect on the main track: if the same comes from outside to two
-- servers with the same main track, messages for slot 124 among it, they have the same main track after
-- it.
abbrev pub MainTrackIsApart : Type 0
MainTrackIsApart = (most most' : ℕ) (rounds rounds' : List Round) (old old' new new' : ServerState)
    → IsSameMainTrack old old' → RunsRounds most rounds old new → RunsRounds most' rounds' old' new'
    → inputs_of (events_of (logged_in rounds)) ≡ inputs_of (events_of (logged_in rounds'))
    → IsSameMainTrack new new'
