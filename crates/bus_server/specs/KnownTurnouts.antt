-- What a client knows of a turnout with feedback by the reports on the bus.
use Rattle.std.specs.Prelude.{ℕ, ◌≡◌, ◌&&◌, Bool, true, List, is_some, nat_le, not, Some, IsTrue}
use Rattle.std.specs.List.{flat_map, list_all, slice_index_or}
use Rattle.std.specs.Option.{option_to_list}
use Rattle.railway.specs.declared.joint.Turnout.{Turnout}
use Rattle.railway.specs.declared.joint.TurnoutState.{TurnoutState}
use Rattle.railway.specs.declared.turnout_report.TurnoutReport.{TurnoutReport}
use Rattle.railway.specs.Feedback.{is_alone, side_after, turnout_report_of}
use Rattle.railway.specs.Network.{lies, turnouts_of}
use Rattle.railway.specs.Railway.{RailwayState}
use Rattle.bus.specs.declared.outcome.Outcome.TheVariants.{Sent}
use Rattle.bus.specs.declared.event.Event.TheVariants.{Receives}
use Rattle.bus.specs.Bus.{outcome_of}
use Rattle.bus_server.specs.DeviceReports.{turnouts_in}
use Rattle.bus_server.specs.Known.{received_in}
use Rattle.bus_server.specs.Observations.{Observation, Observed}
use Rattle.bus_server.specs.Running.{Round, RunsRounds, logged_in}
use Rattle.bus_server.specs.Sensors.{asks_sensors}
use Rattle.bus_server.specs.ServerState.{LoggedEvent, RunsEvent, ServerState}

-- the reports of turnouts among messages, as layout software reads them
abbrev pub movements_read : List (List ℕ) → List TurnoutReport
movements_read messages = flat_map (λ message. option_to_list (turnout_report_of message)) messages

-- the side of a switch that a client knows by messages: that of its last report
abbrev pub side_by : List (List ℕ) → (switch : ℕ) → Bool → Bool
side_by messages switch side = side_after (movements_read messages) switch side

-- It is not a message of a client that reads as a report (OPC_SW_REP).
abbrev pub is_no_turnout_claim : Observation → Bool
is_no_turnout_claim (Observed (Sent client message reply) nodes railway) =
    not (is_some (turnout_report_of message))
is_no_turnout_claim other = true

-- no client sends such a message
abbrev pub ClaimNoTurnout : List LoggedEvent → Type 0
ClaimNoTurnout applied = list_all (λ one. is_no_turnout_claim one.observed) applied ≡ true

-- a switch has an address of LocoNet: 1 to 2048
abbrev pub is_switch : (switch : ℕ) → Bool
is_switch switch = nat_le 1 switch && nat_le switch 2048

abbrev pub are_switches : List Turnout → Bool
are_switches turnouts = list_all (λ turnout. is_switch turnout.switch) turnouts

abbrev pub are_of_switches : List TurnoutReport → Bool
are_of_switches reports = list_all (λ report. is_switch report.switch) reports

-- With what is still due, the side that a client knows of a switch is that of the turnout of this
-- index, which alone has the switch and feedback: whenever it lies.
pub record IsTurnoutKnown (turnout switch : ℕ) (none : TurnoutState) (side : Bool)
    (state : ServerState) : Type 0 where
  pub railway : RailwayState
  pub beside : state.railway ≡ Some railway
  pub alone : IsTrue (is_alone turnout switch (turnouts_of railway.network.turnouts))
  pub switches : IsTrue (are_switches (turnouts_of railway.network.turnouts))
  pub addressed : IsTrue (are_of_switches (turnouts_in state.unreported))
  pub known : IsTrue (lies (slice_index_or railway.network.turnouts turnout none))
      → side_after (turnouts_in state.unreported) switch side
      ≡ (slice_index_or railway.network.turnouts turnout none).is_thrown

-- It stays so in every run in which no client sends a report of a turnout.
abbrev pub TurnoutStaysKnown : Type 0
TurnoutStaysKnown = (turnout switch most : ℕ) (none : TurnoutState) (side : Bool)
    (rounds : List Round) (old new : ServerState)
    → RunsRounds most rounds old new → ClaimNoTurnout (logged_in rounds)
    → IsTurnoutKnown turnout switch none side old
    → IsTurnoutKnown turnout switch none (side_by (received_in (logged_in rounds)) switch side) new

-- After an interrogation it is so, whatever the client knew.
abbrev pub TurnoutBecomesKnown : Type 0
TurnoutBecomesKnown = (turnout switch client byte : ℕ) (none : TurnoutState) (side : Bool)
    (railway : RailwayState) (observed : Observation) (old new : ServerState)
    → old.railway ≡ Some railway
    → IsTrue (is_alone turnout switch (turnouts_of railway.network.turnouts))
    → IsTrue (are_switches (turnouts_of railway.network.turnouts))
    → asks_sensors (outcome_of old.bus (Receives client byte)) ≡ true
    → RunsEvent (Receives client byte) observed old new
    → IsTurnoutKnown turnout switch none side new
