-- A run that stopped at a fault: what was applied up to it, and which device failed.
use Rattle.std.specs.Prelude.{ℕ, ◌≡◌, ◌⊎◌, ◌<◌, ◌≤◌, Bool, true, List, [], ◌∷◌, ◌++◌, Result, Ok, Err}
use Rattle.bus.specs.Log.{Extends}
use Rattle.bus.specs.Course.{micros_in}
use Rattle.bus.specs.Cycle.{RunsInTime}
use Rattle.bus_server.specs.declared.running.Stop.{Stop}
use Rattle.bus_server.specs.declared.running.Stop.TheVariants.{Transport, Clock, Observer, AfterRound}
use Rattle.bus_server.specs.declared.pace.Pace.{Pace}
use Rattle.bus_server.specs.declared.pace.Pace.TheVariants.{AfterMessages, RealTime}
use Rattle.bus_server.specs.ServerState.{Applies, AppliesAll, Handled, LoggedEvent, ServerState, events_of, has_overflowed, longest_wait, observations_in, round_start, transport_events}
use Rattle.bus_server.specs.Snapshots.{Snapshot}
use Rattle.bus_server.specs.Rounds.{IsRound}
use Rattle.bus_server.specs.Running.{HasGrown, IsEventRun, Round, RunsLogged, RunsRounds, RunSnapshot, StartsRound, logged_in, shown}
use Rattle.bus_server.specs.Track.{IsTimeDue, RunsSteps, RunsTrack, RunsTurns, is_piece, is_turn, turns_left, with_time_due}
use Rattle.bus_server.specs.TransportEvents.{Accepted, PeerClosed, Received, ServerClosed, TransportEvent}

-- What was applied of an event of the transport at which the observer failed: all but, perhaps, some of what devices report. At
-- the notice of an overflow nothing was applied.
abbrev pub Begins : TransportEvent → List LoggedEvent → ServerState → ServerState → Type 0
Begins (Accepted client) applied old new = Applies (Accepted client) applied old new
Begins (Received client byte) applied old new = Applies (Received client byte) applied old new
Begins (PeerClosed client) applied old new = Applies (PeerClosed client) applied old new
Begins (ServerClosed client) applied old new =
    Applies (ServerClosed client) applied old new ⊎ ((has_overflowed old client ≡ true) × (applied ≡ []) × (new ≡ old))
Begins other applied old new = ⊥

-- The observer failed at the last of these. All before it was applied, and nothing followed.
abbrev pub StopsIn : List Handled → ServerState → ServerState → Type 0
StopsIn handled old new =
    (before : List Handled) × (last : Handled) × (mid : ServerState) × (handled ≡ before ++ last ∷ []) × AppliesAll before old mid
    × Begins last.log last.applied mid new

-- the logs grew by this
abbrev pub Stops : (old new : Snapshot) → Type 0
Stops old new =
    (handled : List Handled) × Extends old.log new.log (transport_events handled)
    × Extends old.observed new.observed (observations_in handled) × StopsIn handled old.state new.state

-- What a call did between two moments: this holds of the value that it returned, or the observer failed in it.
abbrev pub Returns : {T E : Type 0} → (T → Snapshot → Snapshot → Type 0) → Result T E → (old new : Snapshot) → Type 0
Returns Holds (Ok value) old new = Holds value old new
Returns Holds (Err fault) old new = Stops old new

-- the same of one that returns nothing
abbrev pub Serves : {T E : Type 0} → (Snapshot → Snapshot → Type 0) → Result T E → (old new : Snapshot) → Type 0
Serves Holds result old new = Returns (λ _. Holds) result old new

-- The observer failed in turns that are due: those of some clients were run, and some of the next client's.
abbrev pub StopsInTurns : List LoggedEvent → ServerState → ServerState → Type 0
StopsInTurns applied old new =
    (client count : ℕ) × (before last : List LoggedEvent) × (mid : ServerState) × (client < 8) × (applied ≡ before ++ last)
    × RunsTurns client before old mid × RunsSteps is_turn count last mid new × (count ≤ turns_left mid client) × (count ≤ 100)

-- The observer failed in the time that is due: at what was skipped, or when a part had elapsed.
abbrev pub StopsInTime : (owed : ℕ) → List LoggedEvent → ServerState → ServerState → Type 0
StopsInTime owed applied old new =
    (count : ℕ) × RunsSteps is_piece count applied (with_time_due owed old) new × (micros_in old.bus (events_of applied) ≤ owed)
    × (count ≤ 100)

-- After a round the clock could not be read, or the observer failed.
abbrev pub StopsOnTrack : {T C O A : Type 0} → Stop T C O A → Pace → (readings : List ℕ) → List LoggedEvent → ServerState → ServerState → Type 0
StopsOnTrack (Clock fault) (RealTime rate) readings applied old new =
    (old.time_due ≡ 0) × (readings ≡ []) × (applied ≡ []) × (new ≡ old)
StopsOnTrack (Observer fault) (RealTime rate) readings applied old new =
    (owed : ℕ) × IsTimeDue rate old.time_due readings owed × StopsInTime owed applied old new
StopsOnTrack (Observer fault) (AfterMessages turns) readings applied old new = (readings ≡ []) × StopsInTurns applied old new
StopsOnTrack stop pace readings applied old new = ⊥

-- a whole round, and then on the track
abbrev pub StopsElapsing : {T C O A : Type 0} → Stop T C O A → Round → ServerState → ServerState → Type 0
StopsElapsing stop last old new =
    (last.shown ≡ []) × (mid : ServerState) × IsRound last.handled old mid × StopsOnTrack stop mid.pace last.readings last.elapsing mid new

-- the observer failed in a round, before the track ran
abbrev pub StopsRound : Round → ServerState → ServerState → Type 0
StopsRound last old new = (last.readings ≡ []) × (last.elapsing ≡ []) × (last.shown ≡ []) × StopsIn last.handled old new

-- what is done after a round failed, after the round and the track after it
abbrev pub StopsAfterRound : Round → ServerState → ServerState → Type 0
StopsAfterRound last old new =
    (last.shown ≡ shown new ∷ []) × (mid : ServerState) × IsRound last.handled old mid
    × RunsTrack mid.pace last.readings last.elapsing mid new

-- A round that a device stopped. The transport failed in its wait, and nothing followed; the clock at
-- its reading, after the round; the observer in the round, or on the track after it; or what is done
-- after that.
abbrev pub StopsAt : {T C O A : Type 0} → Stop T C O A → Round → ServerState → ServerState → Type 0
StopsAt (Transport fault) last old new =
    (last ≡ record { longest = longest_wait old; answers = λ client. []; handled = []; readings = []; elapsing = []; shown = [] }) × (new ≡ old)
StopsAt {T = T} {O = O} {A = A} (Clock fault) last old new =
    StartsRound last old × StopsElapsing {T = T} {O = O} {A = A} (Clock fault) last (round_start old) new
StopsAt {T = T} {C = C} {A = A} (Observer fault) last old new =
    StartsRound last old
    × (StopsRound last (round_start old) new ⊎ StopsElapsing {T = T} {C = C} {A = A} (Observer fault) last (round_start old) new)
StopsAt (AfterRound fault) last old new = StartsRound last old × StopsAfterRound last (round_start old) new

-- the last round of a run, begun while fewer clients than these had disconnected
abbrev pub StopsLogged : {T C O A : Type 0} → (most : ℕ) → Stop T C O A → (last : Round) → (old new : RunSnapshot) → Type 0
StopsLogged most stop last old new =
    HasGrown (last ∷ []) old new × (old.state.disconnected < most) × StopsAt stop last old.state new.state

-- A call that served one round: a whole one, or the last, which a device stopped.
abbrev pub ServesRound : {U T C O A : Type 0} → (most : ℕ) → Result U (Stop T C O A) → (old new : RunSnapshot) → Type 0
ServesRound most (Ok done) old new = (round : Round) × RunsLogged most (round ∷ []) old new
ServesRound most (Err stop) old new = (last : Round) × StopsLogged most stop last old new

-- A run that a device stopped: whole rounds, and the one that it stopped. The logs grew by these, so that all that was read was
-- applied; their events, in order, are what the bus ran; and the headline in time holds of these events.
abbrev pub IsStoppedRun : {T C O A : Type 0} → (most : ℕ) → Stop T C O A → (old new : RunSnapshot) → Type 0
IsStoppedRun most stop old new =
    (rounds : List Round) × (last : Round) × HasGrown (rounds ++ last ∷ []) old new
    × (mid : ServerState) × RunsRounds most rounds old.state mid × (mid.disconnected < most) × StopsAt stop last mid new.state
    × IsEventRun (events_of (logged_in (rounds ++ last ∷ []))) old.state new.state
    × RunsInTime old.state.bus (events_of (logged_in (rounds ++ last ∷ []))) old.state.nodes new.state.nodes

-- whether what is done after each round has failed, once a run has stopped for this
abbrev pub fails : {T C O A : Type 0} → Stop T C O A → (before : Bool) → Bool
fails (AfterRound fault) before = true
fails other before = before

-- after a run: it fails exactly if the run stopped for it
abbrev pub after_round_failed : {U T C O A : Type 0} → Result U (Stop T C O A) → (before : Bool) → Bool
after_round_failed (Ok done) before = before
after_round_failed (Err stop) before = fails stop before
