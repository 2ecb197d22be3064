-- A run that goes on: what it has come to when a round ends. A server that serves without end returns from no run, so this is
-- what is promised of it.
use Rattle.std.specs.Prelude.{ℕ, ◌≡◌, ⊤, List, Option, Some, None}
use Rattle.station_core.specs.Powered.{HasDesk}
use Rattle.bus.specs.Cycle.{RunsInTime}
use Rattle.bus.specs.Invariant.{IsInvariant}
use Rattle.bus.specs.Log.{Extends}
use Rattle.bus_server.specs.AfterRound.{Shown}
use Rattle.bus_server.specs.Observations.{Observation}
use Rattle.bus_server.specs.Running.{IsEventRun, Round, RunsLogged, RunsRounds, RunSnapshot, logged_in, observation_log, shown, transport_log}
use Rattle.bus_server.specs.ServerState.{ServerState, events_of}
use Rattle.bus_server.specs.TransportEvents.{TransportEvent}

-- this is the moment at which a run began, if that is known
abbrev pub IsBeginning : (begun : Option RunSnapshot) → (now : RunSnapshot) → Type 0
IsBeginning None now = ⊤
IsBeginning (Some start) now = start ≡ now

-- Whole rounds have been run since this moment, each begun while fewer clients than these had disconnected: the logs grew by
-- them, and what is shown now is how the last one left the layout. Their events, in order, are what the bus ran, and the
-- headline in time holds of these events.
abbrev pub HasRun : (most : ℕ) → (start : RunSnapshot) → Option (List TransportEvent) → Option (List Observation) → Shown → Type 0
HasRun most start log observed now =
    (rounds : List Round) × (end : ServerState) × RunsRounds most rounds start.state end × (now ≡ shown end)
    × Extends start.log log (transport_log rounds) × Extends start.observed observed (observation_log rounds)
    × IsEventRun (events_of (logged_in rounds)) start.state end
    × RunsInTime start.state.bus (events_of (logged_in rounds)) start.state.nodes end.nodes

-- a run so far, if its beginning is known
abbrev pub IsSoFar : (begun : Option RunSnapshot) → Option (List TransportEvent) → Option (List Observation) → Shown → Type 0
IsSoFar None log observed now = ⊤
IsSoFar (Some start) log observed now = (most : ℕ) × HasRun most start log observed now

-- a run that has come to this moment, between two rounds
abbrev pub ComesTo : (most : ℕ) → (begun : Option RunSnapshot) → (now : RunSnapshot) → Type 0
ComesTo most None now = ⊤
ComesTo most (Some start) now =
    (rounds : List Round) × RunsLogged most rounds start now × IsInvariant start.state.bus × HasDesk start.state.bus.station.powered
