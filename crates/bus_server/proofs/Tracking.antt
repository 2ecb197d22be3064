-- What the track runs is one list of events, which what is still due does not change.
use Rattle.std.proofs.Common.{◌≡◌, ℕ, zero, suc, ◌+◌, ◌<◌, inl, inr, Bool, false, true, List, [], ◌∷◌, ◌++◌, refl, ap, sym, subst, ◌∙◌, arith}
use Rattle.bus.specs.Bus.{BusState, after_event, outcome_of}
use Rattle.bus.specs.Course.{micros_in}
use Rattle.std.specs.List.{list_all}
use Rattle.std.specs.Prelude.{nat_lt}
use Rattle.std.proofs.lemmas.Bool.{and_parts}
use Rattle.std.proofs.lemmas.Bool.Decides.{nat_tests}
use Rattle.std.proofs.lemmas.List.{map-append}
use Rattle.bus.specs.declared.event.Event.{Event}
use Rattle.bus.specs.declared.event.Event.TheVariants.{Connects, Disconnects, Elapses, Receives, Reports, Programs, Turn}
use Rattle.bus_server.specs.Sensors.{is_report}
use Rattle.bus_server.specs.declared.pace.Pace.{Pace}
use Rattle.bus_server.specs.declared.pace.Pace.TheVariants.{AfterMessages, RealTime}
use Rattle.bus_server.specs.declared.track_due.TurnsDue.{TurnsDue}
use Rattle.bus_server.specs.ServerState.{IsWithReports, LoggedEvent, RunsEvent, RunsEvents, ServerState, events_of, is_crowded}
use Rattle.bus_server.specs.TrackDue.{due_after}
use Rattle.bus_server.specs.Observations.{Observation}
use Rattle.bus_server.specs.StoppedRuns.{StopsOnTrack}
use Rattle.bus_server.specs.Track.{IsTimeDue, RunsStep, RunsSteps, RunsTime, RunsTrack, RunsTurns, RunsTurnsOf, is_piece, is_turn, with_time_due}
use Rattle.bus_server.specs.declared.running.Stop.{Stop}
use Rattle.bus_server.specs.declared.running.Stop.TheVariants.{Transport, Clock, Observer, AfterRound}
use Rattle.bus_server.proofs.Going.{happened_more, reports_take_none}

-- the same state, but for what is due and whether there may be more input
abbrev pub with_due : List TurnsDue → (micros : ℕ) → Bool → ServerState → ServerState
with_due turns micros backlog state = record state { turns_due = turns; time_due = micros; has_backlog = backlog }

event_moved : (event : Event) (observed : Observation) (turns : List TurnsDue) (micros : ℕ) (backlog : Bool) (old new : ServerState) → RunsEvent event observed old new
    → RunsEvent event observed (with_due turns micros backlog old) (with_due (due_after (outcome_of old.bus event) old.pace turns) micros backlog new)
event_moved event observed turns micros backlog old new h = record {
  legal = h.legal;
  bus = h.bus;
  nodes = h.nodes;
  piece = h.piece;
  railway = h.railway;
  programming = h.programming;
  unreported = h.unreported;
  queues = h.queues;
  names = h.names;
  answers = h.answers;
  turns_due = refl;
  time_due = refl;
  losses = h.losses;
  pace = h.pace;
  first_client = h.first_client;
  has_backlog = refl;
  disconnected = h.disconnected;
  saw = h.saw;
}

-- events run all the same, whatever is due
events_moved : (applied : List LoggedEvent) (turns : List TurnsDue) (micros : ℕ) (backlog : Bool) (old new : ServerState) → RunsEvents applied old new
    → (turns' : List TurnsDue) × RunsEvents applied (with_due turns micros backlog old) (with_due turns' micros backlog new)
events_moved [] turns micros backlog old new same = (turns, ap (with_due turns micros backlog) same)
events_moved (one ∷ applied) turns micros backlog old new h =
    let mid = with_due (due_after (outcome_of old.bus one.event) old.pace turns) micros backlog h.0 in
    let rest = events_moved applied mid.turns_due micros backlog h.0 new h.2 in
    (rest.0, (mid, event_moved one.event one.observed turns micros backlog old h.0 h.1, rest.1))

-- the track ran these events, and what is due may have changed
abbrev pub HasRun : List LoggedEvent → ServerState → ServerState → Type 0
HasRun applied old new = (mid : ServerState) × RunsEvents applied old mid × (new ≡ with_due new.turns_due new.time_due new.has_backlog mid)

ran_none : (old new : ServerState) → new ≡ with_due new.turns_due new.time_due new.has_backlog old → HasRun [] old new
ran_none old new same = (old, refl, same)

ran_more : (first second : List LoggedEvent) (old mid new : ServerState) → HasRun first old mid → HasRun second mid new → HasRun (first ++ second) old new
ran_more first second old mid new h k =
    let start = h.0 in
    let moved = events_moved second start.turns_due start.time_due start.has_backlog mid k.0 k.1 in
    let end = with_due moved.0 start.time_due start.has_backlog k.0 in
    let from : with_due start.turns_due start.time_due start.has_backlog mid ≡ start = ap (with_due start.turns_due start.time_due start.has_backlog) h.2 in (
      end,
      happened_more first second old start end h.1 (subst (λ (s : ServerState). RunsEvents second s end) from moved.1),
      k.2,
    )

ran_cut : (applied first second : List LoggedEvent) (old new : ServerState) → applied ≡ first ++ second → HasRun (first ++ second) old new → HasRun applied old new
ran_cut applied first second old new same = subst (λ (all : List LoggedEvent). HasRun all old new) (sym same)

-- What is due to clients stays while the track runs.

turn_keeps : (event : Event) (observed : Observation) (old new : ServerState) → is_turn event ≡ true → RunsEvent event observed old new → new.turns_due ≡ old.turns_due
turn_keeps (Turn missed) observed old new is h = h.turns_due
turn_keeps (Connects client) observed old new is h = cc
turn_keeps (Receives client byte) observed old new is h = cc
turn_keeps (Disconnects client) observed old new is h = cc
turn_keeps (Reports message) observed old new is h = cc
turn_keeps (Programs packet change) observed old new is h = cc
turn_keeps (Elapses micros missed) observed old new is h = cc

report_keeps : (event : Event) (observed : Observation) (old new : ServerState) → is_report event ≡ true → RunsEvent event observed old new → new.turns_due ≡ old.turns_due
report_keeps (Reports message) observed old new is h = h.turns_due
report_keeps (Programs packet change) observed old new is h = h.turns_due
report_keeps (Connects client) observed old new is h = cc
report_keeps (Receives client byte) observed old new is h = cc
report_keeps (Disconnects client) observed old new is h = cc
report_keeps (Turn missed) observed old new is h = cc
report_keeps (Elapses micros missed) observed old new is h = cc

pub reports_keep : (applied : List LoggedEvent) (old new : ServerState) → list_all is_report (events_of applied) ≡ true → RunsEvents applied old new → new.turns_due ≡ old.turns_due
reports_keep [] old new are same = ap (λ (s : ServerState). s.turns_due) same
reports_keep (one ∷ applied) old new are h =
    let p = and_parts (is_report one.event) (list_all is_report (events_of applied)) are in
    reports_keep applied h.0 new p.1 h.2 ∙ report_keeps one.event one.observed old h.0 p.0 h.1

step_keeps : (event : Event) (applied : List LoggedEvent) (old new : ServerState) → is_turn event ≡ true → IsWithReports event (events_of applied) → RunsEvents applied old new → new.turns_due ≡ old.turns_due
step_keeps event [] old new is are h = absurd are
step_keeps event (one ∷ applied) old new is are h =
    reports_keep applied h.0 new are.1 h.2 ∙ turn_keeps event one.observed old h.0 is (subst (λ (e : Event). RunsEvent e one.observed old h.0) are.0 h.1)

pub turns_keep : (count : ℕ) (applied : List LoggedEvent) (old new : ServerState) → RunsSteps is_turn count applied old new → new.turns_due ≡ old.turns_due
turns_keep zero applied old new h = ap (λ (s : ServerState). s.turns_due) h.1
turns_keep (suc n) applied old new h = step_keeps h.6.0 h.1 h.2 new h.6.1 h.6.2 h.6.3 ∙ turns_keep n h.0 old h.2 h.4

-- one more piece of time

pub some_piece : (piece : ℕ) → 0 < piece → nat_lt 0 piece ≡ true
some_piece piece some = grind (arith, nat_tests, some)

micros_behind : (piece missed : ℕ) (events reports : List Event) (bus : BusState) → list_all is_report reports ≡ true → micros_in bus (events ++ Elapses piece missed ∷ reports) ≡ micros_in bus events + piece
micros_behind piece missed [] reports bus only = let none = reports_take_none reports (after_event bus (Elapses piece missed)) only in omega (arith, none)
micros_behind piece missed (event ∷ events) reports bus only = omega (arith, micros_behind piece missed events reports (after_event bus event) only)

pub micros_more : (piece missed : ℕ) (observed : Observation) (applied reports : List LoggedEvent) (bus : BusState) (micros : ℕ) → micros_in bus (events_of applied) ≡ micros → list_all is_report (events_of reports) ≡ true
    → micros_in bus (events_of (applied ++ record { event = Elapses piece missed; observed = observed } ∷ reports)) ≡ micros + piece
micros_more piece missed observed applied reports bus micros so_far only =
    ap (micros_in bus) (map-append (λ (one : LoggedEvent). one.event) applied (record { event = Elapses piece missed; observed = observed } ∷ reports))
    ∙ micros_behind piece missed (events_of applied) (events_of reports) bus only ∙ ap (λ (n : ℕ). n + piece) so_far

-- the time that is left is due, and the clock is not read
pub left_is_due : (rate left : ℕ) → 0 < left → IsTimeDue rate left [] left
left_is_due rate zero some = absurd (omega (arith, some))
left_is_due rate (suc n) some = (refl, refl)

-- Steps.

pub steps_run : (is_step : Event → Bool) (count : ℕ) (applied : List LoggedEvent) (old new : ServerState) → RunsSteps is_step count applied old new → RunsEvents applied old new
steps_run is_step zero applied old new h = subst (λ (all : List LoggedEvent). RunsEvents all old new) (sym h.0) h.1
steps_run is_step (suc n) applied old new h =
    subst (λ (all : List LoggedEvent). RunsEvents all old new) (sym h.3)
    (happened_more h.0 h.1 old h.2 new (steps_run is_step n h.0 old h.2 h.4) h.6.3)

pub steps_more : (is_step : Event → Bool) (count : ℕ) (applied last : List LoggedEvent) (old mid new : ServerState) → RunsSteps is_step count applied old mid → (0 < count → is_crowded mid ≡ false)
    → RunsStep is_step last mid new → RunsSteps is_step (count + 1) (applied ++ last) old new
steps_more is_step count applied last old mid new so_far room one =
    subst (λ (n : ℕ). RunsSteps is_step n (applied ++ last) old new) {x = suc count} {y = count + 1} (omega arith) (applied, last, mid, refl, so_far, room, one)

steps_ran : (is_step : Event → Bool) (count : ℕ) (applied : List LoggedEvent) (old new : ServerState) → RunsSteps is_step count applied old new → HasRun applied old new
steps_ran is_step count applied old new h = (new, steps_run is_step count applied old new h, refl)

-- Turns.

turns_of_ran : (client : ℕ) (applied : List LoggedEvent) (old new : ServerState) → RunsTurnsOf client applied old new → HasRun applied old new
turns_of_ran client applied old new h = elim h [
  | inl none ↦ subst (λ (all : List LoggedEvent). HasRun all old new) (sym none.1) (subst (λ (s : ServerState). HasRun [] old s) (sym none.2) (old, refl, refl))
  | inr some ↦ (some.2, steps_run is_turn some.1 applied old some.2 some.3, subst (λ (s : ServerState). s ≡ with_due s.turns_due s.time_due s.has_backlog some.2) (sym some.5) refl)
]

pub turns_ran : (below : ℕ) (applied : List LoggedEvent) (old new : ServerState) → RunsTurns below applied old new → HasRun applied old new
turns_ran zero applied old new h = subst (λ (all : List LoggedEvent). HasRun all old new) (sym h.0) (subst (λ (s : ServerState). HasRun [] old s) (sym h.1) (old, refl, refl))
turns_ran (suc n) applied old new h =
    ran_cut applied h.0 h.1 old new h.3 (ran_more h.0 h.1 old h.2 new (turns_ran n h.0 old h.2 h.4) (turns_of_ran n h.1 h.2 new h.5))

pub turns_then : (below : ℕ) (applied last : List LoggedEvent) (old mid new : ServerState) → RunsTurns below applied old mid → RunsTurnsOf below last mid new → RunsTurns (below + 1) (applied ++ last) old new
turns_then below applied last old mid new so_far one =
    subst (λ (n : ℕ). RunsTurns n (applied ++ last) old new) {x = suc below} {y = below + 1} (omega arith) (applied, last, mid, refl, so_far, one)

-- Time.

-- the time that is due before changes no event
due_ran : (owed : ℕ) (applied : List LoggedEvent) (old new : ServerState) → RunsEvents applied (with_time_due owed old) new → HasRun applied old new
due_ran owed applied old new h =
    let moved = events_moved applied old.turns_due old.time_due old.has_backlog (with_time_due owed old) new h in
    (with_due moved.0 old.time_due old.has_backlog new, moved.1, refl)

time_ran : (owed : ℕ) (applied : List LoggedEvent) (old new : ServerState) → RunsTime owed applied old new → HasRun applied old new
unfolding due_ran
time_ran owed applied old new h =
    let ran = due_ran owed applied old h.2 (steps_run is_piece h.0 applied (with_time_due owed old) h.2 h.3) in
    (ran.0, ran.1, subst (λ (s : ServerState). s ≡ with_due s.turns_due s.time_due s.has_backlog ran.0) (sym h.6) refl)

pub track_ran : (pace : Pace) (readings : List ℕ) (applied : List LoggedEvent) (old new : ServerState) → RunsTrack pace readings applied old new → HasRun applied old new
track_ran (AfterMessages turns) readings applied old new h = turns_ran 8 applied old new h.1
track_ran (RealTime rate) readings applied old new h = time_ran h.0 applied old new h.2

-- and where a device stopped it

pub stop_ran : {T C O A : Type 0} → (stop : Stop T C O A) (pace : Pace) (readings : List ℕ) (applied : List LoggedEvent) (old new : ServerState) → StopsOnTrack stop pace readings applied old new → HasRun applied old new
stop_ran (Clock fault) (RealTime rate) readings applied old new h = subst (λ (all : List LoggedEvent). HasRun all old new) (sym h.2) (subst (λ (s : ServerState). HasRun [] old s) (sym h.3) (old, refl, refl))
stop_ran (Observer fault) (RealTime rate) readings applied old new h = due_ran h.0 applied old new (steps_run is_piece h.2.0 applied (with_time_due h.0 old) new h.2.1)
stop_ran (Observer fault) (AfterMessages turns) readings applied old new h =
    let in_turns = h.1 in
    ran_cut applied in_turns.2 in_turns.3 old new in_turns.6
    (ran_more in_turns.2 in_turns.3 old in_turns.4 new (turns_ran in_turns.0 in_turns.2 old in_turns.4 in_turns.7) (steps_ran is_turn in_turns.1 in_turns.3 in_turns.4 new in_turns.8))
stop_ran (Transport fault) pace readings applied old new h = absurd h
stop_ran (AfterRound fault) pace readings applied old new h = absurd h
stop_ran (Clock fault) (AfterMessages turns) readings applied old new h = absurd h
