-- The track runs after a round: the turns that are due to clients, or the time that the clock has returned.
use Rattle.std.specs.Prelude.{ℕ, zero, suc, ◌≡◌, ◌⊎◌, ◌-◌, ◌<◌, ◌≤◌, Bool, true, false, nat_lt, List, [], ◌∷◌, ◌++◌, slice_set}
use Rattle.bus.specs.declared.event.Event.{Event}
use Rattle.bus.specs.declared.event.Event.TheVariants.{Elapses, Turn}
use Rattle.bus.specs.Course.{micros_in}
use Rattle.bus_server.specs.declared.pace.Pace.{Pace}
use Rattle.bus_server.specs.declared.pace.Pace.TheVariants.{AfterMessages, RealTime}
use Rattle.bus_server.specs.ServerState.{IsWithReports, LoggedEvent, RunsEvents, ServerState, events_of, is_crowded, with_backlog}
use Rattle.bus_server.specs.TrackDue.{due_to, less}
use Rattle.bus_server.specs.Pace.{track_time}

abbrev pub is_turn : Event → Bool
is_turn (Turn missed) = true
is_turn other = false

-- a piece of time
abbrev pub is_piece : Event → Bool
is_piece (Elapses micros missed) = nat_lt 0 micros
is_piece other = false

-- a step of the track, a turn or a piece of time, and what devices report after it
abbrev pub RunsStep : (is_step : Event → Bool) → List LoggedEvent → ServerState → ServerState → Type 0
RunsStep is_step applied old new =
    (event : Event) × (is_step event ≡ true) × IsWithReports event (events_of applied) × RunsEvents applied old new

-- a number of steps; each after the first begins only while no queue is more than a quarter full
abbrev pub RunsSteps : (is_step : Event → Bool) → (count : ℕ) → List LoggedEvent → ServerState → ServerState → Type 0
RunsSteps is_step zero applied old new = (applied ≡ []) × (new ≡ old)
RunsSteps is_step (suc n) applied old new =
    (before last : List LoggedEvent) × (mid : ServerState) × (applied ≡ before ++ last) × RunsSteps is_step n before old mid
    × (0 < n → is_crowded mid ≡ false) × RunsStep is_step last mid new

-- so many steps of one round: all that was due, a hundred, or fewer and then a queue is more than a quarter full
abbrev pub IsShare : (count run owed : ℕ) → ServerState → Type 0
IsShare count run owed new =
    (run ≤ owed) × (count ≤ 100) × ((run ≡ owed) ⊎ (count ≡ 100) ⊎ ((0 < count) × (is_crowded new ≡ true)))

-- turns of a client have been run, after which it may be read
abbrev pub with_turns_run : (client count : ℕ) → ServerState → ServerState
with_turns_run client count state =
    record (with_backlog state) { turns_due = slice_set state.turns_due client (less count (due_to state.turns_due client)) }

-- the turns of a client that are still to run
abbrev pub turns_left : ServerState → (client : ℕ) → ℕ
turns_left state client = (due_to state.turns_due client).left

-- Some of the turns of a client are run, if any are left.
abbrev pub RunsTurnsOf : (client : ℕ) → List LoggedEvent → ServerState → ServerState → Type 0
RunsTurnsOf client applied old new =
    ((turns_left old client ≡ 0) × (applied ≡ []) × (new ≡ old))
    ⊎ ((0 < turns_left old client) × (count : ℕ) × (mid : ServerState) × RunsSteps is_turn count applied old mid
    × IsShare count count (turns_left old client) mid × (new ≡ with_turns_run client count mid))

-- of the turns of each client below this one
abbrev pub RunsTurns : (below : ℕ) → List LoggedEvent → ServerState → ServerState → Type 0
RunsTurns zero applied old new = (applied ≡ []) × (new ≡ old)
RunsTurns (suc n) applied old new =
    (before last : List LoggedEvent) × (mid : ServerState) × (applied ≡ before ++ last) × RunsTurns n before old mid
    × RunsTurnsOf n last mid new

abbrev pub with_time_due : (micros : ℕ) → ServerState → ServerState
with_time_due micros state = record state { time_due = micros }

-- The time that is due: what a round before has left of it; else the clock is read, and returns it.
abbrev pub IsTimeDue : (rate left : ℕ) → (readings : List ℕ) → (owed : ℕ) → Type 0
IsTimeDue rate zero readings owed = (micros : ℕ) × (readings ≡ micros ∷ []) × (owed ≡ track_time rate micros)
IsTimeDue rate (suc n) readings owed = (readings ≡ []) × (owed ≡ suc n)

-- Some of it elapses, and the rest is left.
abbrev pub RunsTime : (owed : ℕ) → List LoggedEvent → ServerState → ServerState → Type 0
RunsTime owed applied old new =
    (count micros : ℕ) × (mid : ServerState) × RunsSteps is_piece count applied (with_time_due owed old) mid
    × (micros_in old.bus (events_of applied) ≡ micros) × IsShare count micros owed mid × (new ≡ with_time_due (owed - micros) mid)

-- What follows a round. If turns follow messages, some of those that are due to each client, and the clock is not read; else some
-- of the time that is due.
abbrev pub RunsTrack : Pace → (readings : List ℕ) → List LoggedEvent → ServerState → ServerState → Type 0
RunsTrack (AfterMessages turns) readings applied old new = (readings ≡ []) × RunsTurns 8 applied old new
RunsTrack (RealTime rate) readings applied old new =
    (owed : ℕ) × IsTimeDue rate old.time_due readings owed × RunsTime owed applied old new
