-- An event of the bus in parts: time passes beside the station, the bus runs the event, and devices
-- report.
use Rattle.std.specs.Prelude.{ℕ, ◌≡◌, true, List, ◌∷◌, Option}
use Rattle.std.specs.List.{list_all}
use Rattle.layout_core.specs.World.{HaveHeard}
use Rattle.bus.specs.declared.event.Event.{Event}
use Rattle.bus.specs.declared.outcome.Outcome.{Outcome}
use Rattle.bus.specs.Bus.{after_event, is_event, outcome_of}
use Rattle.bus.specs.Layout.{layout_event}
use Rattle.bus.specs.Log.{Extends}
use Rattle.bus_server.specs.Observations.{Observation, Observed}
use Rattle.bus_server.specs.Answers.{answers_after}
use Rattle.bus_server.specs.ServerState.{LoggedEvent, RunsEvents, ServerState, disconnected_after, events_of, first_after, observations_of, outcome_in}
use Rattle.bus_server.specs.Programming.{programming_elapsed, programming_requested}
use Rattle.bus_server.specs.SendQueues.{queues_after}
use Rattle.bus_server.specs.TrackDue.{due_after}
use Rattle.bus_server.specs.Sensors.{reports_of_time, is_report, power_of, railway_elapsed, railway_requested, reports_due}

-- A time has passed: trains have run as the decoders do, with the power of the track, and packets of
-- the programming track were sent. What is reported of it is due.
abbrev pub with_trains_run : (micros : ℕ) → ServerState → ServerState
with_trains_run micros state = record state {
  railway = railway_elapsed state.railway micros (power_of state.bus) state.nodes;
  programming = programming_elapsed state.programming micros;
  unreported = reports_of_time state.railway state.programming micros (power_of state.bus) state.nodes;
}

-- The bus runs an event, once trains have run in its time: a client may put one on the track, ask all
-- sensors to report, or ask something of the programmer.
pub record RunsOnBus (event : Event) (observed : Observation) (old new : ServerState) : Type 0 where
  pub legal : is_event event ≡ true
  pub bus : new.bus ≡ after_event old.bus event
  pub nodes : HaveHeard old.bus.station (layout_event old.bus event) old.nodes new.nodes
  pub railway : new.railway ≡ railway_requested old.names (outcome_of old.bus event) old.railway
  pub programming : new.programming ≡ programming_requested (outcome_of old.bus event) old.programming
  pub unreported : new.unreported
      ≡ reports_due old.names (outcome_of old.bus event) old.railway old.unreported
  pub queues : new.queues ≡ queues_after (outcome_in old event) old.queues
  pub names : new.names ≡ old.names
  pub answers : new.answers ≡ answers_after (outcome_of old.bus event) old.answers
  pub turns_due : new.turns_due ≡ due_after (outcome_of old.bus event) old.pace old.turns_due
  pub time_due : new.time_due ≡ old.time_due
  pub losses : new.losses ≡ old.losses
  pub pace : new.pace ≡ old.pace
  pub first_client : new.first_client ≡ first_after (outcome_of old.bus event) old.first_client
  pub has_backlog : new.has_backlog ≡ old.has_backlog
  pub disconnected : new.disconnected
      ≡ disconnected_after (outcome_of old.bus event) old.disconnected
  pub saw : observed ≡ Observed (outcome_in old event) new.nodes new.railway

-- An outcome was observed, and then what devices report.
abbrev pub ObservesReports : Outcome → (observed observed' : Option (List Observation))
    → (old new : ServerState) → Type 0
ObservesReports outcome observed observed' old new =
    (reports : List LoggedEvent)
    × Extends observed observed'
    (Observed outcome old.nodes old.railway ∷ observations_of reports)
    × (list_all is_report (events_of reports) ≡ true) × RunsEvents reports old new
