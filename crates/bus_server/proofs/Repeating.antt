-- Runs repeat.
use Rattle.std.proofs.Common.{◌≡◌, ℕ, Bool, true, false, if◌then◌else◌, nat_le, List, [], ◌∷◌, ◌++◌, length, Option, refl, ap, ap₂, sym, subst, ◌∙◌}
use Rattle.std.specs.Prelude.{MatchBool}
use Rattle.std.specs.List.{flat_map}
use Rattle.layout_core.specs.declared.node.Node.{Node}
use Rattle.layout_core.specs.World.{HaveHeard}
use Rattle.railway.specs.Railway.{RailwayState}
use Rattle.programming_track.specs.Bench.{BenchState}
use Rattle.bus_server.specs.declared.device_report.DeviceReport.{DeviceReport}
use Rattle.bus_server.specs.DeviceReports.{IsNext, event_of}
use Rattle.bus.specs.declared.event.Event.{Event}
use Rattle.bus.specs.declared.event.Event.TheVariants.{Connects, Disconnects, Elapses, Receives, Reports, Programs, Turn}
use Rattle.bus.specs.Bus.{BusState, after_event, outcome_of}
use Rattle.bus.specs.Layout.{layout_event}
use Rattle.bus_server.specs.declared.losses.Losses.{Losses}
use Rattle.bus_server.specs.Losses.{IsDraw}
use Rattle.bus_server.specs.ServerState.{Applies, AppliesAll, Handled, IsDrawn, LoggedEvent, RunsEvent, RunsEvents, ServerState, events_of, observations_of, round_start, with_backlog}
use Rattle.bus_server.specs.Observations.{Observation, Observed}
use Rattle.bus_server.specs.Placement.{answered}
use Rattle.bus_server.specs.Programming.{programmed}
use Rattle.bus_server.specs.Repeats.{IsAlike, inputs_of, unmissed}
use Rattle.bus_server.specs.Running.{Round, RunsRounds, logged_in}
use Rattle.bus_server.specs.Sensors.{IsDue, is_report, programming_after, railway_after, reports_after, running_in}
use Rattle.bus_server.specs.TransportEvents.{Accepted, NonePending, PeerClosed, Polled, ReadBlocked, Received, Refused, ServerClosed, TransportEvent, WriteBlocked, Written}
use Rattle.bus_server.proofs.Hearing.{drawn_same, heard_same, missed_same}
use Rattle.bus_server.proofs.Rounding.{round_serves}
use Rattle.bus_server.proofs.Tracking.{track_ran}

-- what of a server its events change alike, however it is read and written to
pub record Core : Type 0 where
  pub bus : BusState
  pub nodes : List Node
  pub names : List (List ℕ)
  pub railway : Option RailwayState
  pub programming : Option BenchState
  pub unreported : List DeviceReport
  pub losses : Losses

abbrev pub core : ServerState → Core
core state = record { bus = state.bus; nodes = state.nodes; names = state.names; railway = state.railway; programming = state.programming; unreported = state.unreported; losses = state.losses }

-- the effect of an event on it
pub record HasEffect (event : Event) (observed : Observation) (old new : Core) : Type 0 where
  pub bus : new.bus ≡ after_event old.bus event
  pub nodes : HaveHeard old.bus.station (layout_event old.bus event) old.nodes new.nodes
  pub names : new.names ≡ old.names
  pub railway : new.railway ≡ railway_after old.names old.bus (running_in event old.nodes new.nodes) event old.railway
  pub programming : new.programming ≡ programming_after old.bus event old.programming
  pub unreported : IsDue event (reports_after old.names old.bus (running_in event old.nodes new.nodes) event old.railway old.programming) old.unreported new.unreported
  pub losses : IsDrawn event old.bus (length old.nodes) old.losses new.losses
  pub saw : observed ≡ Observed (programmed old.programming old.railway (answered old.names old.railway (outcome_of old.bus event))) new.nodes new.railway

effect : (event : Event) (observed : Observation) (old new : ServerState) → RunsEvent event observed old new → HasEffect event observed (core old) (core new)
effect event observed old new h = record { bus = h.bus; nodes = h.nodes; names = h.names; railway = h.railway; programming = h.programming; unreported = h.unreported; losses = h.losses; saw = h.saw }

-- one after another
abbrev pub Course : List LoggedEvent → Core → Core → Type 0
Course [] old new = new ≡ old
Course (one ∷ more) old new = (mid : Core) × HasEffect one.event one.observed old mid × Course more mid new

-- A run is one course.

course_more : (first second : List LoggedEvent) (old mid new : Core) → Course first old mid → Course second mid new → Course (first ++ second) old new
course_more [] second old mid new same rest = subst (λ (c : Core). Course second c new) same rest
course_more (one ∷ first) second old mid new h rest = (h.0, h.1, course_more first second h.0 mid new h.2 rest)

events_course : (applied : List LoggedEvent) (old new : ServerState) → RunsEvents applied old new → Course applied (core old) (core new)
events_course [] old new same = ap core same
events_course (one ∷ applied) old new h = (core h.0, effect one.event one.observed old h.0 h.1, events_course applied h.0 new h.2)

none_course : (applied : List LoggedEvent) (old new : ServerState) → applied ≡ [] → core new ≡ core old → Course applied (core old) (core new)
none_course applied old new none same = subst (λ (all : List LoggedEvent). Course all (core old) (core new)) (sym none) same

act_course : (log : TransportEvent) (applied : List LoggedEvent) (old new : ServerState) → Applies log applied old new → Course applied (core old) (core new)
act_course (Accepted client) applied old new h = events_course applied (with_backlog old) new h.1.2
act_course (Received client byte) applied old new h = events_course applied (with_backlog old) new h.1.2
act_course (PeerClosed client) applied old new h = events_course applied old new h.2
act_course (ServerClosed client) applied old new h = events_course applied old new h.1.2
act_course (Written client bytes) applied old new h = none_course applied old new h.0 (ap core h.3)
act_course Refused applied old new h = none_course applied old new h.0 (ap core h.2)
act_course (Polled longest) applied old new h = absurd h
act_course (ReadBlocked client) applied old new h = none_course applied old new h.0 (ap core h.1)
act_course (WriteBlocked client) applied old new h = none_course applied old new h.0 (ap core h.1)
act_course NonePending applied old new h = none_course applied old new h.0 (ap core h.1)

abbrev applied_in : List Handled → List LoggedEvent
applied_in handled = flat_map (λ one_handled. one_handled.applied) handled

acts_course : (handled : List Handled) (old new : ServerState) → AppliesAll handled old new → Course (applied_in handled) (core old) (core new)
acts_course [] old new same = ap core same
acts_course (one ∷ handled) old new h =
    course_more one.applied (applied_in handled) (core old) (core h.0) (core new) (act_course one.log one.applied old h.0 h.1) (acts_course handled h.0 new h.2)

pub rounds_course : (most : ℕ) (rounds : List Round) (old new : ServerState) → RunsRounds most rounds old new → Course (logged_in rounds) (core old) (core new)
rounds_course most [] old new same = ap core same
rounds_course most (round ∷ rounds) old new h =
    let went = h.2 in
    let handled = applied_in round.handled in
    let served : Course handled (core old) (core went.1) = acts_course round.handled (round_start old) went.1 (round_serves round.handled (round_start old) went.1 went.2) in
    let ran = track_ran went.1.pace round.readings round.elapsing went.1 h.1 went.3 in
    let track : Course round.elapsing (core went.1) (core h.1) = subst (λ (c : Core). Course round.elapsing (core went.1) c) (sym (ap core ran.2)) (events_course round.elapsing went.1 ran.0 ran.1) in
    course_more (handled ++ round.elapsing) (logged_in rounds) (core old) (core h.1) (core new)
    (course_more handled round.elapsing (core old) (core went.1) (core h.1) served track) (rounds_course most rounds h.1 new h.3)

-- An event of the same input is the same event, since what is missed of it is drawn.

abbrev pub missed_of : Event → ℕ
missed_of (Turn missed) = missed
missed_of (Elapses micros missed) = missed
missed_of event = 0

abbrev pub with_missed : Event → ℕ → Event
with_missed (Turn none) missed = Turn missed
with_missed (Elapses micros none) missed = Elapses micros missed
with_missed event missed = event

pub missed_again : (event : Event) → with_missed (unmissed event) (missed_of event) ≡ event
missed_again (Connects client) = refl
missed_again (Receives client byte) = refl
missed_again (Disconnects client) = refl
missed_again (Reports message) = refl
missed_again (Programs packet change) = refl
missed_again (Elapses micros missed) = refl
missed_again (Turn missed) = refl

-- the draw of an input
abbrev pub IsDrawnFor : Event → BusState → (nodes missed : ℕ) → (old new : Losses) → Type 0
IsDrawnFor event bus nodes missed old new = IsDrawn (with_missed event missed) bus nodes old new

pub drawn_for : (event : Event) (bus : BusState) (nodes : ℕ) (old new : Losses) → IsDrawn event bus nodes old new → IsDrawnFor (unmissed event) bus nodes (missed_of event) old new
drawn_for event bus nodes old new h = subst (λ (e : Event). IsDrawn e bus nodes old new) (sym (missed_again event)) h

-- only turns and time have something that is missed
abbrev pub HasMissed : Event → (missed : ℕ) → Type 0
HasMissed (Turn none) missed = Unit {0}
HasMissed (Elapses micros none) missed = Unit {0}
HasMissed event missed = missed ≡ 0

pub has_missed : (event : Event) → HasMissed (unmissed event) (missed_of event)
has_missed (Connects client) = refl
has_missed (Receives client byte) = refl
has_missed (Disconnects client) = refl
has_missed (Reports message) = refl
has_missed (Programs packet change) = refl
has_missed (Elapses micros missed) = tt
has_missed (Turn missed) = tt

-- the same is missed, and the losses are the same after it
abbrev DrawsSame : (m n : ℕ) → (a b : Losses) → Type 0
DrawsSame m n a b = (m ≡ n) × (a ≡ b)

begun_same : (begins : Bool) (nodes m n : ℕ) (old a b : Losses) → MatchBool begins (IsDraw nodes m old a) ((m ≡ 0) × (a ≡ old)) → MatchBool begins (IsDraw nodes n old b) ((n ≡ 0) × (b ≡ old)) → DrawsSame m n a b
begun_same true nodes m n old a b h k = (missed_same nodes m n old a b h k, drawn_same nodes m n old a b h k)
begun_same false nodes m n old a b h k = (h.0 ∙ sym k.0, h.1 ∙ sym k.1)

pub draws_same : (event : Event) (bus : BusState) (nodes m n : ℕ) (old a b : Losses) → HasMissed event m → HasMissed event n → IsDrawnFor event bus nodes m old a → IsDrawnFor event bus nodes n old b → DrawsSame m n a b
draws_same (Connects client) bus nodes m n old a b is are h k = (is ∙ sym are, h ∙ sym k)
draws_same (Receives client byte) bus nodes m n old a b is are h k = (is ∙ sym are, h ∙ sym k)
draws_same (Disconnects client) bus nodes m n old a b is are h k = (is ∙ sym are, h ∙ sym k)
draws_same (Reports message) bus nodes m n old a b is are h k = (is ∙ sym are, h ∙ sym k)
draws_same (Programs packet change) bus nodes m n old a b is are h k = (is ∙ sym are, h ∙ sym k)
draws_same (Elapses micros none) bus nodes m n old a b is are h k = begun_same (nat_le bus.remaining micros) nodes m n old a b h k
draws_same (Turn none) bus nodes m n old a b is are h k = (missed_same nodes m n old a b h k, drawn_same nodes m n old a b h k)

-- Lists.

first_or : {A : Type 0} → A → List A → A
first_or a [] = a
first_or a (x ∷ xs) = x

rest_of : {A : Type 0} → List A → List A
rest_of [] = []
rest_of (x ∷ xs) = xs

pub head_same : {A : Type 0} (x y : A) (xs ys : List A) → x ∷ xs ≡ y ∷ ys → x ≡ y
unfolding first_or
head_same x y xs ys h = ap (first_or x) h

pub tail_same : {A : Type 0} (x y : A) (xs ys : List A) → x ∷ xs ≡ y ∷ ys → xs ≡ ys
unfolding rest_of
tail_same x y xs ys h = ap rest_of h

pub no_cons : {A B : Type 0} (x : A) (xs : List A) → [] ≡ x ∷ xs → B
no_cons x xs h = cc

-- Two events with the same effect.

abbrev EndsSame : (seen those : Observation) → (a b : Core) → Type 0
EndsSame seen those a b = (seen ≡ those) × (a ≡ b)

same_unreported : (event : Event) (made old a b : List DeviceReport) → IsDue event made old a → IsDue event made old b → a ≡ b
same_unreported (Connects client) made old a b h k = h.1 ∙ sym k.1
same_unreported (Receives client byte) made old a b h k = h.1 ∙ sym k.1
same_unreported (Disconnects client) made old a b h k = h.1 ∙ sym k.1
same_unreported (Elapses micros missed) made old a b h k = h.1 ∙ sym k.1
same_unreported (Turn missed) made old a b h k = h.1 ∙ sym k.1
same_unreported (Reports message) made old a b h k = tail_same h.0 k.0 a b (sym h.1 ∙ k.1)
same_unreported (Programs packet change) made old a b h k = tail_same h.0 k.0 a b (sym h.1 ∙ k.1)

effect_same : (event : Event) (seen those : Observation) (old a b : Core) → HasEffect event seen old a → HasEffect event those old b → a.losses ≡ b.losses → EndsSame seen those a b
effect_same event seen those old a b h k losses =
    let nodes = heard_same old.bus.station (layout_event old.bus event) old.nodes a.nodes b.nodes h.nodes k.nodes in
    let during : List Node → List Node = running_in event old.nodes in
    let railway : a.railway ≡ b.railway = h.railway ∙ ap (λ (n : List Node). railway_after old.names old.bus (during n) event old.railway) nodes ∙ sym k.railway in
    let programming : a.programming ≡ b.programming = h.programming ∙ sym k.programming in
    let made : List Node → List DeviceReport = λ n. reports_after old.names old.bus (during n) event old.railway old.programming in
    let unreported = same_unreported event (made b.nodes) old.unreported a.unreported b.unreported (subst (λ (n : List Node). IsDue event (made n) old.unreported a.unreported) nodes h.unreported) k.unreported in
    let first : a ≡ record b { losses = a.losses; unreported = a.unreported; programming = a.programming; railway = a.railway; nodes = a.nodes } =
    ap₂ (λ (bus : BusState) (names : List (List ℕ)). record a { bus = bus; names = names }) (h.bus ∙ sym k.bus) (h.names ∙ sym k.names) in
    let second : record b { losses = a.losses; unreported = a.unreported; programming = a.programming; railway = a.railway; nodes = a.nodes } ≡ record b { losses = a.losses; unreported = a.unreported; programming = a.programming } =
    ap₂ (λ (nodes : List Node) (railway : Option RailwayState). record b { losses = a.losses; unreported = a.unreported; programming = a.programming; railway = railway; nodes = nodes }) nodes railway in
    let third : record b { losses = a.losses; unreported = a.unreported; programming = a.programming } ≡ record b { programming = a.programming } =
    ap₂ (λ (losses : Losses) (unreported : List DeviceReport). record b { losses = losses; unreported = unreported; programming = a.programming }) losses unreported in
    let fourth : record b { programming = a.programming } ≡ b = ap (λ (programming : Option BenchState). record b { programming = programming }) programming in (
      h.saw ∙ ap₂ (λ (nodes : List Node) (railway : Option RailwayState). Observed (programmed old.programming old.railway (answered old.names old.railway (outcome_of old.bus event))) nodes railway) nodes railway ∙ sym k.saw,
      first ∙ second ∙ third ∙ fourth,
    )

-- the same input has the same effect
pub input_same : (event other : Event) (seen those : Observation) (old a b : Core) → unmissed event ≡ unmissed other → HasEffect event seen old a → HasEffect other those old b → EndsSame seen those a b
input_same event other seen those old a b input h k =
    let nodes = length old.nodes in
    let drawn = drawn_for other old.bus nodes old.losses b.losses k.losses in
    let draws = draws_same (unmissed event) old.bus nodes (missed_of event) (missed_of other) old.losses a.losses b.losses (has_missed event)
    (subst (λ (e : Event). HasMissed e (missed_of other)) (sym input) (has_missed other)) (drawn_for event old.bus nodes old.losses a.losses h.losses)
    (subst (λ (e : Event). IsDrawnFor e old.bus nodes (missed_of other) old.losses b.losses) (sym input) drawn) in
    let same : event ≡ other = sym (missed_again event) ∙ ap₂ with_missed input draws.0 ∙ missed_again other in
    effect_same event seen those old a b h (subst (λ (e : Event). HasEffect e those old b) (sym same) k) draws.1

-- Devices report what is due, and nothing else comes before.

pub none_due : (event : Event) (made old new : List DeviceReport) → is_report event ≡ false → IsDue event made old new → old ≡ []
none_due (Connects client) made old new is h = h.0
none_due (Receives client byte) made old new is h = h.0
none_due (Disconnects client) made old new is h = h.0
none_due (Elapses micros missed) made old new is h = h.0
none_due (Turn missed) made old new is h = h.0
none_due (Reports message) made old new is h = cc
none_due (Programs packet change) made old new is h = cc

pub no_report : (event : Event) (made old new : List DeviceReport) → old ≡ [] → IsDue event made old new → is_report event ≡ false
no_report (Connects client) made old new none h = refl
no_report (Receives client byte) made old new none h = refl
no_report (Disconnects client) made old new none h = refl
no_report (Elapses micros missed) made old new none h = refl
no_report (Turn missed) made old new none h = refl
no_report (Reports message) made old new none h = no_cons h.0 new (sym none ∙ h.1)
no_report (Programs packet change) made old new none h = no_cons h.0 new (sym none ∙ h.1)

next_of : (event : Event) (made old new : List DeviceReport) → is_report event ≡ true → IsDue event made old new → IsNext event old new
next_of (Reports message) made old new is h = h
next_of (Programs packet change) made old new is h = h
next_of (Connects client) made old new is h = cc
next_of (Receives client byte) made old new is h = cc
next_of (Disconnects client) made old new is h = cc
next_of (Elapses micros missed) made old new is h = cc
next_of (Turn missed) made old new is h = cc

next_same : (event other : Event) (old a b : List DeviceReport) → IsNext event old a → IsNext other old b → event ≡ other
next_same event other old a b h k = sym h.3 ∙ ap event_of (head_same h.0 k.0 a b (sym h.1 ∙ k.1)) ∙ k.3

pub report_same : (event other : Event) (made those old a b : List DeviceReport) → is_report event ≡ true → is_report other ≡ true → IsDue event made old a → IsDue other those old b → event ≡ other
report_same event other made those old a b is are h k = next_same event other old a b (next_of event made old a is h) (next_of other those old b are k)

no_both : {P : Type 0} (a : Bool) → a ≡ true → a ≡ false → P
no_both true h k = cc
no_both false h k = cc

-- the first events of two lists with the same inputs
abbrev FirstSame : (event other : Event) (more others : List Event) → Type 0
FirstSame event other more others = (unmissed event ≡ unmissed other) × (more ≡ others)

first_same : (reports also : Bool) (event other : Event) (more others : List Event) (made those old a b : List DeviceReport) → is_report event ≡ reports → is_report other ≡ also → IsDue event made old a → IsDue other those old b
    → (if reports then [] else unmissed event ∷ []) ++ more ≡ (if also then [] else unmissed other ∷ []) ++ others → FirstSame event other more others
first_same true true event other more others made those old a b is are h k inputs = (ap unmissed (report_same event other made those old a b is are h k), inputs)
first_same false false event other more others made those old a b is are h k inputs = (head_same (unmissed event) (unmissed other) more others inputs, tail_same (unmissed event) (unmissed other) more others inputs)
first_same true false event other more others made those old a b is are h k inputs = no_both (is_report event) is (no_report event made old a (none_due other those old b are k) h)
first_same false true event other more others made those old a b is are h k inputs = no_both (is_report other) are (no_report other those old b (none_due event made old a is h) k)

-- no input comes where nothing is due and no input is left
none_left : (reports : Bool) (event : Event) (more : List Event) → reports ≡ false → [] ≡ (if reports then [] else unmissed event ∷ []) ++ more → ⊥
none_left true event more is inputs = cc
none_left false event more is inputs = no_cons (unmissed event) more inputs

one_left : {P : Type 0} (one : LoggedEvent) (applied : List LoggedEvent) (start a : Core) → Course (one ∷ applied) start a → start.unreported ≡ [] → [] ≡ inputs_of (events_of (one ∷ applied)) → P
one_left one applied start a h none inputs =
    let effects = h.1 in
    absurd (none_left (is_report one.event) one.event (inputs_of (events_of applied))
    (no_report one.event (reports_after start.names start.bus (running_in one.event start.nodes h.0.nodes) one.event start.railway start.programming) start.unreported h.0.unreported none effects.unreported) inputs)

course_same : (first second : List LoggedEvent) (start a b : Core) → Course first start a → Course second start b → a.unreported ≡ [] → b.unreported ≡ [] → inputs_of (events_of first) ≡ inputs_of (events_of second)
    → (a ≡ b) × (observations_of first ≡ observations_of second)
course_same [] [] start a b h k ends too inputs = (h ∙ sym k, refl)
course_same [] (two ∷ second) start a b h k ends too inputs = one_left two second start b k (ap (λ (c : Core). c.unreported) (sym h) ∙ ends) inputs
course_same (one ∷ first) [] start a b h k ends too inputs = one_left one first start a h (ap (λ (c : Core). c.unreported) (sym k) ∙ too) (sym inputs)
course_same (one ∷ first) (two ∷ second) start a b h k ends too inputs =
    let heads = first_same (is_report one.event) (is_report two.event) one.event two.event (inputs_of (events_of first)) (inputs_of (events_of second))
    (reports_after start.names start.bus (running_in one.event start.nodes h.0.nodes) one.event start.railway start.programming) (reports_after start.names start.bus (running_in two.event start.nodes k.0.nodes) two.event start.railway start.programming) start.unreported h.0.unreported k.0.unreported
    refl refl h.1.unreported k.1.unreported inputs in
    let same = input_same one.event two.event one.observed two.observed start h.0 k.0 heads.0 h.1 k.1 in
    let rest = course_same first second h.0 a b h.2 (subst (λ (c : Core). Course second c b) (sym same.1) k.2) ends too heads.1 in
    (rest.0, ap₂ (λ (seen : Observation) (all : List Observation). seen ∷ all) same.0 rest.1)

-- Servers that are alike have the same core.

pub alike_core : (old old' : ServerState) → IsAlike old old' → core old' ≡ core old
alike_core old old' h =
    ap₂ (λ (bus : BusState) (nodes : List Node). record (core old') { bus = bus; nodes = nodes }) h.bus h.nodes
    ∙ ap₂ (λ (names : List (List ℕ)) (railway : Option RailwayState). record (core old') { bus = old.bus; nodes = old.nodes; names = names; railway = railway }) h.names h.railway
    ∙ ap₂ (λ (programming : Option BenchState) (unreported : List DeviceReport). record (core old) { programming = programming; unreported = unreported; losses = old'.losses }) h.programming h.unreported
    ∙ ap (λ (losses : Losses). record (core old) { losses = losses }) h.losses

core_alike : (new new' : ServerState) → core new ≡ core new' → IsAlike new new'
core_alike new new' same = record {
  bus = ap (λ (c : Core). c.bus) (sym same);
  nodes = ap (λ (c : Core). c.nodes) (sym same);
  names = ap (λ (c : Core). c.names) (sym same);
  railway = ap (λ (c : Core). c.railway) (sym same);
  programming = ap (λ (c : Core). c.programming) (sym same);
  unreported = ap (λ (c : Core). c.unreported) (sym same);
  losses = ap (λ (c : Core). c.losses) (sym same);
}

pub runs_repeat : (most most' : ℕ) (rounds rounds' : List Round) (old old' new new' : ServerState) → IsAlike old old' → RunsRounds most rounds old new → RunsRounds most' rounds' old' new' → new.unreported ≡ [] → new'.unreported ≡ []
    → inputs_of (events_of (logged_in rounds)) ≡ inputs_of (events_of (logged_in rounds')) → IsAlike new new' × (observations_of (logged_in rounds) ≡ observations_of (logged_in rounds'))
runs_repeat most most' rounds rounds' old old' new new' alike runs also ends too inputs =
    let second = subst (λ (c : Core). Course (logged_in rounds') c (core new')) (alike_core old old' alike) (rounds_course most' rounds' old' new' also) in
    let same = course_same (logged_in rounds) (logged_in rounds') (core old) (core new) (core new') (rounds_course most rounds old new runs) second ends too inputs in
    (core_alike new new' same.0, same.1)
