-- A whole run of a server: round after round, each with the time that it took.
use Rattle.std.specs.Prelude.{ℕ, Bool, true, ◌==◌, ◌≡◌, ◌⊎◌, ◌+◌, ◌-◌, ◌*◌, ◌^◌, ◌<◌, ◌≤◌, if◌then◌else◌, length, min, nat_lt, List, [], ◌∷◌, ◌++◌, Option}
use Rattle.std.specs.List.{flat_map, list_all}
use Rattle.layout_core.specs.declared.event.Event.{Event as LayoutEvent}
use Rattle.layout_core.specs.declared.event.Event.TheVariants as layout
use Rattle.layout_core.specs.World.{HaveHeard}
use Rattle.station_core.specs.Powered.{HasDesk}
use Rattle.bus.specs.Log.{Extends}
use Rattle.bus.specs.declared.event.Event.{Event}
use Rattle.bus.specs.Bus.{AreEvents, BusState, after_event, after_events}
use Rattle.bus.specs.Course.{micros_in}
use Rattle.bus.specs.Invariant.{IsInvariant}
use Rattle.bus.specs.Layout.{layout_events}
use Rattle.bus_server.specs.Observations.{Observation, Skipped}
use Rattle.bus.specs.Cycle.{RunsInTime}
use Rattle.bus_server.specs.declared.hub.Hub.{Hub}
use Rattle.bus_server.specs.declared.losses.Losses.{Losses}
use Rattle.bus_server.specs.Generator.{loses_none}
use Rattle.bus_server.specs.declared.pace.Pace.TheVariants.{RealTime}
use Rattle.bus_server.specs.Pace.{longest_step}
use Rattle.bus_server.specs.Snapshots.{state_of}
use Rattle.bus_server.specs.Rounds.{IsRound}
use Rattle.bus_server.specs.AfterRound.{Shown}
use Rattle.bus_server.specs.Track.{RunsTrack}
use Rattle.bus_server.specs.ServerState.{Handled, IsDrawn, longest_wait, LoggedEvent, ServerState, events_of, transport_events, observations_in, observations_of, answer_to, round_start}
use Rattle.bus_server.specs.TransportEvents.{Polled, TransportEvent}

abbrev pub shown : ServerState → Shown
shown state = record { nodes = state.nodes; railway = state.railway }

-- One round: how long it waited at most, what each client received of an answer under way, what was handled, the clock's
-- reading if it was read, the events of the track after it, and what was shown then.
pub record Round : Type 0 where
  pub longest : Option ℕ
  pub answers : (client : ℕ) → List ℕ
  pub handled : List Handled
  pub readings : List ℕ
  pub elapsing : List LoggedEvent
  pub shown : List Shown

-- what is beyond a second is skipped, and observed
abbrev pub skipped : (micros : ℕ) → List Observation
skipped micros = if nat_lt longest_step micros then Skipped (micros - longest_step) ∷ [] else []

-- how long a round waits, and what is enqueued of answers as it starts
abbrev pub StartsRound : Round → ServerState → Type 0
StartsRound round old = (round.longest ≡ longest_wait old) × (round.answers ≡ answer_to old)

abbrev pub RunsRound : Round → ServerState → ServerState → Type 0
RunsRound round old new =
    StartsRound round old × (mid : ServerState) × IsRound round.handled (round_start old) mid × RunsTrack mid.pace round.readings round.elapsing mid new
    × (round.shown ≡ shown new ∷ [])

-- one after another, each begun while fewer clients than these had disconnected
abbrev pub RunsRounds : (most : ℕ) → List Round → ServerState → ServerState → Type 0
RunsRounds most [] old new = new ≡ old
RunsRounds most (round ∷ rounds) old new = (old.disconnected < most) × (mid : ServerState) × RunsRound round old mid × RunsRounds most rounds mid new

-- the log of the transport, of the clock, of the observer and of what was shown, and the events of the bus, each in order
abbrev pub transport_log : List Round → List TransportEvent
transport_log rounds = flat_map (λ round. Polled round.longest ∷ transport_events round.handled) rounds

abbrev pub readings_of : List Round → List ℕ
readings_of rounds = flat_map (λ round. round.readings) rounds

abbrev pub observation_log : List Round → List Observation
observation_log rounds = flat_map (λ round. observations_in round.handled ++ (flat_map skipped round.readings ++ observations_of round.elapsing)) rounds

abbrev pub shown_in : List Round → List Shown
shown_in rounds = flat_map (λ round. round.shown) rounds

abbrev pub logged_in : List Round → List LoggedEvent
logged_in rounds = flat_map (λ round. flat_map (λ one_handled. one_handled.applied) round.handled ++ round.elapsing) rounds

-- what the decoders miss of each turn is what the generator draws, turn after turn
abbrev pub AreDrawn : List Event → BusState → (nodes : ℕ) → (old new : Losses) → Type 0
AreDrawn [] bus nodes old new = new ≡ old
AreDrawn (event ∷ events) bus nodes old new = (mid : Losses) × IsDrawn event bus nodes old mid × AreDrawn events (after_event bus event) nodes mid new

-- The bus is what these events make of it, the decoders heard what they are to the layout, and nothing else, and what the
-- decoders missed was drawn.
pub record IsEventRun (events : List Event) (old new : ServerState) : Type 0 where
  pub legal : AreEvents events
  pub bus : new.bus ≡ after_events old.bus events
  pub nodes : HaveHeard old.bus.station (layout_events old.bus events) old.nodes new.nodes
  pub losses : AreDrawn events old.bus (length old.nodes) old.losses new.losses

-- one moment of a run: the four logs, and the server
pub record RunSnapshot : Type 0 where
  pub log : Option (List TransportEvent)
  pub readings : Option (List ℕ)
  pub observed : Option (List Observation)
  pub shown : Option (List Shown)
  pub state : ServerState

abbrev pub run_snapshot : Option (List TransportEvent) → Option (List ℕ) → Option (List Observation) → Option (List Shown) → Hub → RunSnapshot
run_snapshot log readings observed shown hub = record { log = log; readings = readings; observed = observed; shown = shown; state = state_of hub }

-- the four logs grew by these rounds
abbrev pub HasGrown : List Round → (old new : RunSnapshot) → Type 0
HasGrown rounds old new =
    Extends old.log new.log (transport_log rounds) × Extends old.readings new.readings (readings_of rounds)
    × Extends old.observed new.observed (observation_log rounds) × Extends old.shown new.shown (shown_in rounds)

abbrev pub RunsLogged : (most : ℕ) → List Round → (old new : RunSnapshot) → Type 0
RunsLogged most rounds old new = HasGrown rounds old new × RunsRounds most rounds old.state new.state

-- A run, until `most` clients have disconnected. The four logs grew by its rounds, so that what is to be shown was shown after
-- each; their events, in order, are what the bus ran; and the headline in time holds of these events.
abbrev pub IsRun : (most : ℕ) → (old new : RunSnapshot) → Type 0
IsRun most old new =
    (rounds : List Round) × RunsLogged most rounds old new × ((most ≤ new.state.disconnected) ⊎ (length rounds ≡ 2 ^ 64 - 1))
    × IsEventRun (events_of (logged_in rounds)) old.state new.state
    × RunsInTime old.state.bus (events_of (logged_in rounds)) old.state.nodes new.state.nodes

-- no decoder misses this
abbrev pub is_missed_by_none : LayoutEvent → Bool
is_missed_by_none (layout.Turn missed) = missed == 0
is_missed_by_none other = true

-- Where no decoder is to miss anything, none misses a turn.
abbrev pub NoneMisses : Type 0
NoneMisses = (events : List Event) (old new : ServerState) → IsEventRun events old new → loses_none old.losses.shares.items ≡ true
    → list_all is_missed_by_none (layout_events old.bus events) ≡ true

-- the sum of the clock's readings, each a second at most
abbrev pub time_read : List ℕ → ℕ
time_read [] = 0
time_read (micros ∷ readings) = min micros longest_step + time_read readings

-- If turns follow time, the track time of a run, with what is still due after it, is the time that the clock returned, as many
-- times as fast, with what was due before, and no other.
abbrev pub TimeIsRead : Type 0
TimeIsRead = (rate most : ℕ) (rounds : List Round) (old new : ServerState) → old.pace ≡ RealTime rate → RunsRounds most rounds old new
    → micros_in old.bus (events_of (logged_in rounds)) + new.time_due ≡ old.time_due + rate * time_read (readings_of rounds)

-- Whatever rounds a run has had, their events, in order, are what the bus ran, and the headline in time holds of them: of a run
-- that goes on too.
abbrev pub RoundsAreARun : Type 0
RoundsAreARun = (most : ℕ) (rounds : List Round) (old new : ServerState) → IsInvariant old.bus → HasDesk old.bus.station.powered
    → RunsRounds most rounds old new
    → IsEventRun (events_of (logged_in rounds)) old new × RunsInTime old.bus (events_of (logged_in rounds)) old.nodes new.nodes
