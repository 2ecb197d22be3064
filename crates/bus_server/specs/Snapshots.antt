-- A server as contracts see it, and how it progresses with its transport and its observer.
use Rattle.std.specs.Prelude.{ℕ, ◌≡◌, ◌⊎◌, Bool, true, false, List, [], ◌∷◌, map, OnOk, Option, Result}
use Rattle.std.specs.List.{list_all}
use Rattle.bus.specs.State.{bus_state}
use Rattle.bus_server.specs.Observations.{Observation}
use Rattle.decoder_node.specs.declared.node.NodeSpec.{NodeSpec}
use Rattle.layout_core.specs.Nodes.{spec_of}
use Rattle.bus.specs.Log.{Extends}
use Rattle.bus_server.specs.declared.hub.Hub.{Hub}
use Rattle.bus_server.specs.DeviceReports.{queue_of}
use Rattle.bus_server.specs.NamedNodes.{names_of}
use Rattle.bus_server.specs.Rounds.{HasMoreClients, PreservesRound, HasEmptyQueue, is_accept}
use Rattle.bus_server.specs.ServerState.{Handled, Applies, LoggedEvent, AppliesAll, ServerState, transport_events, observations_in, observations_of}
use Rattle.bus_server.specs.declared.transport.IoOutcome.{IoOutcome}
use Rattle.bus_server.specs.declared.transport.IoOutcome.TheVariants.{Bytes, Closed, WouldBlock}
use Rattle.bus_server.specs.TransportEvents.{WriteBlocked, PeerClosed, NonePending, TransportEvent, Written}

abbrev pub state_of : Hub → ServerState
state_of hub = record {
  bus = bus_state hub.bus;
  nodes = hub.bus.world.nodes;
  names = names_of hub.answers.nodes.items;
  railway = hub.sensors.railway;
  programming = hub.sensors.programming;
  unreported = queue_of hub.sensors.unreported;
  queues = hub.queues;
  answers = hub.answers.under_way;
  turns_due = hub.track_due.turns;
  time_due = hub.track_due.micros;
  losses = hub.losses;
  pace = hub.pace;
  first_client = hub.first_client;
  disconnected = hub.disconnected;
  has_backlog = hub.has_backlog;
}

-- the decoders of the layout are those of the observer
abbrev pub ObservesLayout : (decoder_specs : List NodeSpec) → Hub → Type 0
ObservesLayout decoder_specs hub = map spec_of hub.bus.world.nodes ≡ decoder_specs

-- all that devices were to report has been reported
abbrev pub HasReported : Hub → Type 0
HasReported hub = queue_of hub.sensors.unreported ≡ []

-- A server is ready for an event: its decoders are those of the observer, and nothing is left to report.
abbrev pub IsReady : (decoder_specs : List NodeSpec) → Hub → Type 0
IsReady decoder_specs hub = ObservesLayout decoder_specs hub × HasReported hub

-- After a call its decoders are those of the observer. Something is left to report only if the observer failed.
abbrev pub IsReadyAfter : {T E : Type 0} → Result T E → (decoder_specs : List NodeSpec) → Hub → Type 0
IsReadyAfter result decoder_specs hub = ObservesLayout decoder_specs hub × OnOk result (HasReported hub)

-- one moment: the transport's log, the observer's, and the server
pub record Snapshot : Type 0 where
  pub log : Option (List TransportEvent)
  pub observed : Option (List Observation)
  pub state : ServerState

abbrev pub snapshot : Option (List TransportEvent) → Option (List Observation) → Hub → Snapshot
snapshot log observed hub = record { log = log; observed = observed; state = state_of hub }

-- The observations since are those of a list of events, of which this holds.
abbrev pub IsObserved : (List LoggedEvent → Type 0) → (observed observed' : Option (List Observation)) → Type 0
IsObserved Holds observed observed' = (applied : List LoggedEvent) × Extends observed observed' (observations_of applied) × Holds applied

-- The logs grew by what was handled since, and the server is the result. Of the events and the server this holds.
abbrev pub Progresses : (List TransportEvent → ServerState → Type 0) → (old new : Snapshot) → Type 0
Progresses Holds old new =
    (handled : List Handled) × Extends old.log new.log (transport_events handled) × Extends old.observed new.observed (observations_in handled) × AppliesAll handled old.state new.state × Holds (transport_events handled) new.state

-- the same, by what a whole round is
abbrev pub ProgressesBy : (List Handled → ServerState → ServerState → Type 0) → (old new : Snapshot) → Type 0
ProgressesBy Is old new = (handled : List Handled) × Extends old.log new.log (transport_events handled) × Extends old.observed new.observed (observations_in handled) × Is handled old.state new.state

-- The same without reading, so that nothing is undone that the round has done.
abbrev pub ProgressesWithoutInput : (List TransportEvent → ServerState → Type 0) → (old new : Snapshot) → Type 0
ProgressesWithoutInput Holds old new = Progresses (λ more all. PreservesRound more old.state all × Holds more all) old new

-- A client is connected at this index, or is accepted there; or none is pending, and nothing changes.
abbrev pub AcceptsAt : (client : ℕ) → (is_taken : Bool) → (old new : Snapshot) → Type 0
AcceptsAt client true old new =
    ProgressesWithoutInput (λ more all. (list_all is_accept more ≡ true) × HasMoreClients client old.state all) old new
AcceptsAt client false old new = Extends old.log new.log (NonePending ∷ []) × Extends old.observed new.observed [] × (new.state ≡ old.state)

-- A write of the front of a client's queue, which is removed from it. An empty queue is not written. A write that would block
-- changes nothing, and one to a client that has closed is in the transport's log, and not yet on the bus.
abbrev pub WritesFront : (client : ℕ) → IoOutcome → (log log' : Option (List TransportEvent)) → ServerState → ServerState → Type 0
WritesFront client (Bytes count) log log' old new = (bytes : List ℕ) × Extends log log' (Written client bytes ∷ []) × Applies (Written client bytes) [] old new
WritesFront client WouldBlock log log' old new = ((Extends log log' [] × HasEmptyQueue client old) ⊎ Extends log log' (WriteBlocked client ∷ [])) × (new ≡ old)
WritesFront client Closed log log' old new = Extends log log' (PeerClosed client ∷ []) × (new ≡ old)
