-- From slider to rail: how far a train runs once its decoder runs as its slot says.
use Rattle.std.specs.Prelude.{ℕ, ◌≡◌, ◌+◌, ◌<◌, List, [], ◌∷◌, ◌++◌, length, IsTrue, Option, Some, None, Ok}
use Rattle.std.specs.List.{slice_index_or}
use Rattle.station_core.specs.Powered.{HasDesk}
use Rattle.decoder_node.specs.declared.running.Running.{Running}
use Rattle.layout_core.specs.declared.node.Node.{Node}
use Rattle.layout_core.specs.declared.node.Node.TheVariants.{Loco}
use Rattle.railway.specs.declared.train.TrainState.{TrainState}
use Rattle.railway.specs.Course.{Happening}
use Rattle.railway.specs.Course.Happening.{Elapses as TimeElapses}
use Rattle.railway.specs.Driven.{HasRun, LeavesAlone}
use Rattle.railway.specs.Railway.{RailwayState, is_railway}
use Rattle.bus.specs.declared.event.Event.{Event}
use Rattle.bus.specs.declared.event.Event.TheVariants.{Receives, Elapses, Turn}
use Rattle.bus.specs.declared.outcome.Outcome.{Outcome}
use Rattle.bus.specs.declared.outcome.Outcome.TheVariants.{DeviceRequested, PlaceRequested}
use Rattle.bus.specs.Bus.{BusState, after_event, outcome_of}
use Rattle.bus.specs.Cycle.{Assignment, IsHeard, wanted_of}
use Rattle.bus.specs.Invariant.{IsInvariant}
use Rattle.bus_server.specs.Failures.{happening_by}
use Rattle.bus_server.specs.Placement.{places}
use Rattle.bus_server.specs.Running.{IsEventRun, Round, RunsRounds, logged_in}
use Rattle.bus_server.specs.Sensors.{next_turn, power_of, running_in as nodes_in}
use Rattle.bus_server.specs.ServerState.{LoggedEvent, RunsEvent, ServerState, events_of}

-- what happens to the railway as a client requests it
abbrev pub requested_of : (names : List (List ℕ)) → Outcome → Option RailwayState → Option Happening
requested_of names (PlaceRequested client (Ok placement)) (Some railway) =
    Some (places names railway placement)
requested_of names (DeviceRequested client request) railway = happening_by request
requested_of names other railway = None

-- what happens to the railway in an event, while the decoders do this
abbrev pub happening_in : ServerState → List Node → Event → Option Happening
happening_in state nodes (Elapses micros missed) =
    Some (TimeElapses micros (power_of state.bus) nodes)
happening_in state nodes (Turn missed) =
    Some (TimeElapses (next_turn state.bus) (power_of state.bus) nodes)
happening_in state nodes (Receives client byte) =
    requested_of state.names (outcome_of state.bus (Receives client byte)) state.railway
happening_in state nodes other = None

-- the microseconds that trains run in events: in a turn that is run by itself, all of it
abbrev pub run_time : BusState → Event → ℕ
run_time bus (Elapses micros missed) = micros
run_time bus (Turn missed) = next_turn bus
run_time bus other = 0

abbrev pub run_time_in : BusState → List Event → ℕ
run_time_in bus [] = 0
run_time_in bus (event ∷ events) = run_time bus event + run_time_in (after_event bus event) events

-- it leaves a train alone that still runs for so many microseconds, if anything happens
abbrev pub IsLeftAlone
    : (train : ℕ) → Running → (micros : ℕ) → Option Happening → Option RailwayState → Type 0
IsLeftAlone train running micros (Some happening) (Some railway) =
    LeavesAlone train running micros railway happening
IsLeftAlone train running micros happening other = Unit {0}

-- the first of these events leaves it alone
abbrev pub IsLeftAloneIn
    : (train : ℕ) → Running → Event → List Event → (old new : ServerState) → Type 0
IsLeftAloneIn train running event more old new =
    IsLeftAlone train running (run_time_in old.bus (event ∷ more))
    (happening_in old (nodes_in event old.nodes new.nodes) event) old.railway

-- The layout of a server stays the same: its bus, the decoders, their names and the railway.
pub record HasSameLayout (old new : ServerState) : Type 0 where
  pub bus : new.bus ≡ old.bus
  pub nodes : new.nodes ≡ old.nodes
  pub names : new.names ≡ old.names
  pub railway : new.railway ≡ old.railway

-- Events run, and leave a train alone whose decoder runs like this: no client places it, and the
-- turnouts on its way in them stay as they lie. Between them the server goes on with what is not of
-- its layout: queues, answers, what is due.
abbrev pub RunsLeavingAlone
    : (train : ℕ) → Running → List LoggedEvent → (old new : ServerState) → Type 0
RunsLeavingAlone train running [] old new = HasSameLayout old new
RunsLeavingAlone train running (one ∷ more) old new =
    (begun mid : ServerState) × HasSameLayout old begun
    × RunsEvent one.event one.observed begun mid
    × IsLeftAloneIn train running one.event (events_of more) begun mid
    × RunsLeavingAlone train running more mid new

-- events leave a train alone, however they run from here
abbrev pub StaysLeftAlone
    : (train : ℕ) → Running → List LoggedEvent → (old : ServerState) → Type 0
StaysLeftAlone train running [] old = Unit {0}
StaysLeftAlone train running (one ∷ more) old =
    (begun mid : ServerState) → HasSameLayout old begun
    → RunsEvent one.event one.observed begun mid
    → IsLeftAloneIn train running one.event (events_of more) begun mid
    × StaysLeftAlone train running more mid

-- these are the events of rounds of a server, which leave a train alone
abbrev pub RunsRoundsLeavingAlone
    : (train : ℕ) → Running → List LoggedEvent → (old new : ServerState) → Type 0
RunsRoundsLeavingAlone train running applied old new =
    (most : ℕ) × (rounds : List Round) × (applied ≡ logged_in rounds)
    × RunsRounds most rounds old new × StaysLeftAlone train running applied old

-- After a cycle as the headline in time says it, while the locomotive hears everything, its slot says
-- the same and its train is left alone, the train has run as the slot asks for exactly the time since
-- then: without momentum as far as its speed times the time, until the track stops it; with momentum
-- it has its speed after its ramp.
abbrev pub ReachesRail
    : (RunsAlone : (train : ℕ) → Running → List LoggedEvent → (old new : ServerState) → Type 0)
    → Type 0
ReachesRail RunsAlone =
    (asked : Assignment) (before cycle : List Event) (later : List LoggedEvent)
    (start settled new : ServerState) (none : Node)
    → IsInvariant start.bus → HasDesk start.bus.station.powered
    → asked.node < length start.nodes
    → slice_index_or start.nodes asked.node none ≡ Loco asked.loco
    → IsHeard asked start.bus before cycle (events_of later)
    → IsEventRun (before ++ cycle) start settled
    → (train : ℕ) (no_train : TrainState) (railway : RailwayState)
    → settled.railway ≡ Some railway → IsTrue (is_railway railway)
    → train < length railway.trains
    → (slice_index_or railway.trains train no_train).decoder ≡ asked.node
    → RunsAlone train (wanted_of asked) later settled new
    → (now : RailwayState) × (new.railway ≡ Some now)
    × HasRun railway.network (wanted_of asked) (run_time_in settled.bus (events_of later))
    (slice_index_or railway.trains train no_train) (slice_index_or now.trains train no_train)

-- by events of the layout, whatever else the server does between them
abbrev pub SliderReachesRail : Type 0
SliderReachesRail = ReachesRail RunsLeavingAlone

-- by the rounds of a server, whatever they are
abbrev pub RoundsReachRail : Type 0
RoundsReachRail = ReachesRail RunsRoundsLeavingAlone
