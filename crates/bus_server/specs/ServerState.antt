-- The effect of transport events, and of time, on a server.
use Rattle.std.specs.Prelude.{ℕ, ◌≡◌, ◌<◌, ◌+◌, ◌-◌, ◌%◌, ◌^◌, Bool, true, false, if◌then◌else◌, ◌&&◌, nat_le, nat_lt, not, is_some, length, min, ◌||◌, List, [], ◌∷◌, ◌++◌, map, replicate, MatchBool, Option, Some, None, slice_set}
use Rattle.decoder_node.specs.declared.node.NodeSpec.{NodeSpec}
use Rattle.std.specs.List.{flat_map, list_all, list_any, slice_index_or}
use Rattle.layout_core.specs.declared.node.Node.{Node}
use Rattle.layout_core.specs.Nodes.{node_of}
use Rattle.layout_core.specs.World.{HaveHeard}
use Rattle.railway.specs.Railway.{RailwayState}
use Rattle.programming_track.specs.Bench.{BenchState}
use Rattle.bus_server.specs.declared.device_report.DeviceReport.{DeviceReport}
use Rattle.bus_server.specs.declared.losses.Losses.{Losses}
use Rattle.bus_server.specs.Losses.{IsDraw}
use Rattle.bus_server.specs.declared.pace.Pace.{Pace}
use Rattle.bus_server.specs.declared.track_due.TurnsDue.{TurnsDue}
use Rattle.bus_server.specs.TrackDue.{after_answer, due_after, due_to, follow_message, is_due, must_wait, none_due, turns_answer}
use Rattle.bus_server.specs.Pace.{clock_time, follows_messages}
use Rattle.bus.specs.declared.event.Event.{Event}
use Rattle.bus.specs.declared.event.Event.TheVariants.{Receives, Connects, Disconnects, Elapses, Turn}
use Rattle.bus.specs.declared.outcome.Outcome.{Outcome}
use Rattle.bus.specs.declared.outcome.Outcome.TheVariants.{Disconnected, Sent}
use Rattle.bus.specs.Bus.{BusState, after_event, client_of, first_bus, is_event, outcome_of}
use Rattle.bus.specs.Layout.{layout_event}
use Rattle.bus_server.specs.Observations.{Observed, Observation, Overflowed}
use Rattle.bus_server.specs.Answers.{Answers, after_line, answers_after, count_of, lines_of, next_line}
use Rattle.bus_server.specs.Placement.{answered}
use Rattle.bus_server.specs.Programming.{programmed}
use Rattle.bus_server.specs.Sensors.{IsDue, IsWithinTurn, is_report, programming_after, railway_after, reports_after, running_in}
use Rattle.bus_server.specs.SendQueue.{is_more_than_quarter}
use Rattle.bus_server.specs.SendQueues.{SendQueues, enqueued_from, queues_after}
use Rattle.bus_server.specs.TransportEvents.{Polled, ServerClosed, Accepted, PeerClosed, TransportEvent, Written, Received, Refused}

-- A server: its bus, the decoders and their names, the railway and the programming track beside them
-- (or None) and what these are still to report, the queue of each client, the answer under way to each, the turns due
-- to each and the microseconds that are due, the generator of losses, what turns follow, the client
-- that is read first in the next round, how many clients have disconnected, and whether there may be
-- more input than was read.
pub record ServerState : Type 0 where
  pub bus : BusState
  pub nodes : List Node
  pub names : List (List ℕ)
  pub railway : Option RailwayState
  pub programming : Option BenchState
  pub unreported : List DeviceReport
  pub queues : SendQueues
  pub answers : Answers
  pub turns_due : List TurnsDue
  pub time_due : ℕ
  pub losses : Losses
  pub pace : Pace
  pub first_client : ℕ
  pub disconnected : ℕ
  pub has_backlog : Bool

-- a new server: new decoders, and no clients
abbrev pub initial_state : List NodeSpec → (names : List (List ℕ)) → Option RailwayState → Option BenchState → Pace → Losses → ServerState
initial_state nodes names railway programming pace losses = record {
  bus = first_bus (record { is_stepped = follows_messages pace; has_sensors = is_some railway; has_programmer = is_some programming });
  nodes = map node_of nodes;
  names = names;
  railway = railway;
  programming = programming;
  unreported = [];
  queues = replicate 8 None;
  answers = replicate 8 None;
  turns_due = replicate 8 none_due;
  time_due = 0;
  losses = losses;
  pace = pace;
  first_client = 0;
  disconnected = 0;
  has_backlog = false;
}

-- the client that is read first: that behind the last which sent a message
abbrev pub first_after : Outcome → ℕ → ℕ
first_after (Sent client message reply) first = (client + 1) % 8
first_after other first = first

-- how many clients have disconnected: one more after each, as far as 64 bits count
abbrev pub disconnected_after : Outcome → ℕ → ℕ
disconnected_after (Disconnected client) disconnected = min (disconnected + 1) (2 ^ 64 - 1)
disconnected_after other disconnected = disconnected

-- what the decoders miss of a turn is drawn as it begins; if none begins, nothing is drawn or missed
abbrev pub IsDrawn : Event → BusState → (nodes : ℕ) → (old new : Losses) → Type 0
IsDrawn (Elapses micros missed) bus nodes old new = MatchBool (nat_le bus.remaining micros) (IsDraw nodes missed old new) ((missed ≡ 0) × (new ≡ old))
IsDrawn (Turn missed) bus nodes old new = IsDraw nodes missed old new
IsDrawn other bus nodes old new = new ≡ old

-- the outcome of an event, with the answer where a client puts a train on the track or arranges the
-- devices, and the reply of the programmer or of a turnout with feedback
abbrev pub outcome_in : ServerState → Event → Outcome
outcome_in state event = programmed state.programming state.railway (answered state.names state.railway (outcome_of state.bus event))

-- One event of the bus: the decoders heard what it is to the layout, trains ran in its time or were
-- placed, the text of its outcome was enqueued, and the outcome was observed with the decoders and the railway as they are then.
pub record RunsEvent (event : Event) (observed : Observation) (old new : ServerState) : Type 0 where
  pub legal : is_event event ≡ true
  pub bus : new.bus ≡ after_event old.bus event
  pub nodes : HaveHeard old.bus.station (layout_event old.bus event) old.nodes new.nodes
  pub piece : IsWithinTurn event old.bus
  pub railway : new.railway ≡ railway_after old.names old.bus (running_in event old.nodes new.nodes) event old.railway
  pub programming : new.programming ≡ programming_after old.bus event old.programming
  pub unreported : IsDue event (reports_after old.names old.bus (running_in event old.nodes new.nodes) event old.railway old.programming) old.unreported new.unreported
  pub queues : new.queues ≡ queues_after (outcome_in old event) old.queues
  pub names : new.names ≡ old.names
  pub answers : new.answers ≡ answers_after (outcome_of old.bus event) old.answers
  pub turns_due : new.turns_due ≡ due_after (outcome_of old.bus event) old.pace old.turns_due
  pub time_due : new.time_due ≡ old.time_due
  pub losses : IsDrawn event old.bus (length old.nodes) old.losses new.losses
  pub pace : new.pace ≡ old.pace
  pub first_client : new.first_client ≡ first_after (outcome_of old.bus event) old.first_client
  pub has_backlog : new.has_backlog ≡ old.has_backlog
  pub disconnected : new.disconnected ≡ disconnected_after (outcome_of old.bus event) old.disconnected
  pub saw : observed ≡ Observed (outcome_in old event) new.nodes new.railway

-- an event of the bus, and its observation
pub record LoggedEvent : Type 0 where
  pub event : Event
  pub observed : Observation

abbrev pub events_of : List LoggedEvent → List Event
events_of happened = map (λ one. one.event) happened

abbrev pub observations_of : List LoggedEvent → List Observation
observations_of happened = map (λ one. one.observed) happened

-- one after another
abbrev pub RunsEvents : List LoggedEvent → ServerState → ServerState → Type 0
RunsEvents [] old new = new ≡ old
RunsEvents (one ∷ more) old new = (mid : ServerState) × RunsEvent one.event one.observed old mid × RunsEvents more mid new

-- a client is connected
abbrev pub is_connected : ServerState → (client : ℕ) → Bool
is_connected state client = is_some (client_of state.bus client)

-- a client connects at a free index
abbrev pub is_accepted : ServerState → Event → Bool
is_accepted state (Connects client) = not (is_connected state client)
is_accepted state other = true

-- a client is connected, but its text had no room in its queue, which is closed
abbrev pub has_overflowed : ServerState → (client : ℕ) → Bool
has_overflowed state client = is_connected state client && not (is_some (slice_index_or state.queues client None))

-- a queue is more than a quarter full
abbrev pub is_crowded : ServerState → Bool
is_crowded state = list_any is_more_than_quarter state.queues

-- turns are left that follow a message
abbrev pub has_turns_to_follow : ServerState → Bool
has_turns_to_follow state = list_any follow_message state.turns_due

-- what a client sends waits for turns
abbrev pub waits : ServerState → (client : ℕ) → Bool
waits state client = must_wait state.turns_due client

-- this event, and what devices report after it
abbrev pub IsWithReports : Event → List Event → Type 0
IsWithReports event [] = ⊥
IsWithReports event (first ∷ behind) = (first ≡ event) × (list_all is_report behind ≡ true)

-- An event of a client is run, with what devices report; a client connects at a free index.
abbrev pub RunsEventWithReports : Event → List LoggedEvent → ServerState → ServerState → Type 0
RunsEventWithReports event applied old new =
    (is_accepted old event ≡ true) × IsWithReports event (events_of applied) × RunsEvents applied old new

-- an event of the transport, and the events of the bus that it caused
pub record Handled : Type 0 where
  pub log : TransportEvent
  pub applied : List LoggedEvent

-- an answer to a client is under way
abbrev pub is_answering : ServerState → Bool
is_answering state = list_any is_some state.answers

-- turns or time are due
abbrev pub is_track_due : ServerState → Bool
is_track_due state = list_any is_due state.turns_due || nat_lt 0 state.time_due

-- How long a server waits for input, in microseconds: not while there may be more of it, an answer is under way or the track is
-- due to run; else until the turn under way ends; where turns follow messages, without end.
abbrev pub longest_wait : ServerState → Option ℕ
longest_wait state =
    if state.has_backlog || is_answering state || is_track_due state then Some 0 else clock_time state.pace state.bus.remaining

-- there may be more input; and none was found since the last wait
abbrev pub with_backlog : ServerState → ServerState
with_backlog state = record state { has_backlog = true }

abbrev pub without_backlog : ServerState → ServerState
without_backlog state = record state { has_backlog = false }

-- what each client receives next: a line of the answer under way to it, and that its turns have passed
abbrev pub answer_to : ServerState → (client : ℕ) → List ℕ
answer_to state client =
    next_line (lines_of state.names state.nodes state.railway) state.programming (slice_index_or state.answers client None) ++ turns_answer (due_to state.turns_due client)

-- it is enqueued
abbrev pub with_answers : ServerState → ServerState
with_answers state = record state {
  queues = enqueued_from 0 (answer_to state) state.queues;
  answers = map (after_line (count_of state.names state.railway) state.programming) state.answers;
  turns_due = map after_answer state.turns_due;
}

-- the start of a round, after its wait
abbrev pub round_start : ServerState → ServerState
round_start state = with_answers (without_backlog state)

-- What each event of the transport does, after a wait. A client that is accepted or closes, and each byte, is an event of the
-- bus; a client is not read while it waits for turns, and none is accepted while turns are left that follow a message. What is
-- written is the front of the client's queue. The server closes a client only if its queue has overflowed, and refuses one only
-- while all eight are connected. After what was read, accepted or refused there may be more.
abbrev pub Applies : TransportEvent → List LoggedEvent → ServerState → ServerState → Type 0
Applies (Polled longest) applied old new = ⊥
Applies (Accepted client) applied old new =
    (has_turns_to_follow old ≡ false) × RunsEventWithReports (Connects client) applied (with_backlog old) new
Applies (Received client byte) applied old new =
    (waits old client ≡ false) × RunsEventWithReports (Receives client byte) applied (with_backlog old) new
Applies (PeerClosed client) applied old new = RunsEventWithReports (Disconnects client) applied old new
Applies (ServerClosed client) applied old new = (has_overflowed old client ≡ true) × RunsEventWithReports (Disconnects client) applied old new
Applies (Written client bytes) applied old new =
    (applied ≡ []) × (rest : List ℕ) × (slice_index_or old.queues client None ≡ Some (bytes ++ rest)) × (new ≡ record old { queues = slice_set old.queues client (Some rest) })
Applies Refused applied old new = (applied ≡ []) × ((client : ℕ) → client < 8 → is_connected old client ≡ true) × (new ≡ with_backlog old)
Applies other applied old new = (applied ≡ []) × (new ≡ old)

-- one after another
abbrev pub AppliesAll : List Handled → ServerState → ServerState → Type 0
AppliesAll [] old new = new ≡ old
AppliesAll (one_handled ∷ handled) old new = (mid : ServerState) × Applies one_handled.log one_handled.applied old mid × AppliesAll handled mid new

abbrev pub transport_events : List Handled → List TransportEvent
transport_events handled = map (λ one_handled. one_handled.log) handled

-- what is observed of them: that a queue has overflowed, and then each outcome
abbrev pub overflow_notice : TransportEvent → List Observation
overflow_notice (ServerClosed client) = Overflowed client ∷ []
overflow_notice other = []

abbrev pub observations_in : List Handled → List Observation
observations_in handled = flat_map (λ one_handled. overflow_notice one_handled.log ++ observations_of one_handled.applied) handled
