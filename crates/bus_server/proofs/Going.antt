-- How a hub, its transport and its observer progress, one event after another.
use Rattle.std.proofs.Common.{◌≡◌, ℕ, zero, suc, ◌<◌, ◌≤◌, true, false, List, [], ◌∷◌, ◌++◌, length, take, drop, Option, Some, None, Result, Ok, Err, refl, ap, sym, subst, ◌∙◌, arith, append_assoc, append-nil}
use Rattle.std.specs.Prelude.{◌==◌, is_some, not, OnOk}
use Rattle.std.specs.List.{list_all}
use Rattle.std.proofs.lemmas.Bool.{and_from}
use Rattle.std.proofs.lemmas.List.{length-take, map-append, take-append-drop, take-take}
use Rattle.std.proofs.lemmas.List.Concat.{flat_map-append}
use Rattle.std.proofs.lemmas.List.Folds.{list_all-append}
use Rattle.bus.specs.declared.event.Event.{Event}
use Rattle.bus.specs.declared.event.Event.TheVariants.{Connects, Receives, Disconnects, Reports, Programs, Elapses, Turn}
use Rattle.bus.specs.Bus.{BusState}
use Rattle.bus.specs.Course.{is_time, micros_in}
use Rattle.bus_server.specs.Observations.{Observed, Observation}
use Rattle.layout_core.specs.declared.world.World.{World}
use Rattle.railway.specs.Railway.{RailwayState}
use Rattle.bus.specs.declared.outcome.Outcome.{Outcome}
use Rattle.bus.specs.Log.{Extends}
use Rattle.bus_server.specs.declared.losses.Losses.{Losses}
use Rattle.bus_server.specs.Snapshots.{Progresses, ProgressesWithoutInput, Snapshot}
use Rattle.bus_server.specs.Rounds.{IsUnread, PreservesRound}
use Rattle.bus_server.specs.ServerState.{Handled, Applies, LoggedEvent, RunsEvent, RunsEvents, IsDrawn, AppliesAll, ServerState, events_of, overflow_notice, transport_events, observations_in, observations_of}
use Rattle.bus_server.specs.SendQueue.{queued}
use Rattle.bus_server.specs.AfterRound.{Shown}
use Rattle.bus_server.specs.Sensors.{is_report}
use Rattle.bus_server.specs.Hub.{ObservesReports}
use Rattle.bus_server.specs.TransportEvents.{TransportEvent}
use Rattle.bus_server.proofs.Keeping.{keeps_more, keeps_same}

-- Logs.

pub grows_none : {A : Type 0} (log : Option (List A)) → Extends log log []
grows_none None = tt
grows_none (Some all) = sym (append-nil all)

pub grows_more : {A : Type 0} (a b c : Option (List A)) (first second : List A) → Extends a b first → Extends b c second → Extends a c (first ++ second)
grows_more None None None first second h k = tt
grows_more None None (Some zs) first second h k = absurd k
grows_more None (Some ys) c first second h k = absurd h
grows_more (Some xs) None c first second h k = absurd h
grows_more (Some xs) (Some ys) None first second h k = absurd k
grows_more {A = A} (Some xs) (Some ys) (Some zs) first second h k = k ∙ ap (λ (all : List A). all ++ second) h ∙ append_assoc xs first second

pub log-append : (first second : List Handled) → transport_events (first ++ second) ≡ transport_events first ++ transport_events second
log-append first second = map-append (λ (one_handled : Handled). one_handled.log) first second

pub observed-append : (first second : List Handled) → observations_in (first ++ second) ≡ observations_in first ++ observations_in second
observed-append first second = flat_map-append (λ (one_handled : Handled). overflow_notice one_handled.log ++ observations_of one_handled.applied) first second

-- all that passed on the transport and was shown, one after another
pub wire_more : (a b c : Option (List TransportEvent)) (first second : List Handled) → Extends a b (transport_events first) → Extends b c (transport_events second) → Extends a c (transport_events (first ++ second))
wire_more a b c first second h k =
    subst (λ (more : List TransportEvent). Extends a c more) (sym (log-append first second)) (grows_more a b c (transport_events first) (transport_events second) h k)

pub acts_more : (a b c : Option (List Observation)) (first second : List Handled) → Extends a b (observations_in first) → Extends b c (observations_in second) → Extends a c (observations_in (first ++ second))
acts_more a b c first second h k =
    subst (λ (more : List Observation). Extends a c more) (sym (observed-append first second)) (grows_more a b c (observations_in first) (observations_in second) h k)

pub shown_more : (a b c : Option (List Observation)) (first second : List LoggedEvent) → Extends a b (observations_of first) → Extends b c (observations_of second) → Extends a c (observations_of (first ++ second))
shown_more a b c first second h k =
    subst (λ (more : List Observation). Extends a c more) (sym (map-append (λ (one : LoggedEvent). one.observed) first second)) (grows_more a b c (observations_of first) (observations_of second) h k)

-- what was shown of a layout that is this one
pub seen_layout : (a b : Option (List Observation)) (outcome : Outcome) (seen world : World) (lent railway : Option RailwayState) → seen ≡ world → lent ≡ railway
    → Extends a b (Observed outcome seen.nodes lent ∷ []) → Extends a b (Observed outcome world.nodes railway ∷ [])
seen_layout a b outcome seen world lent railway same same_railway grows =
    subst (λ (r : Option RailwayState). Extends a b (Observed outcome world.nodes r ∷ [])) same_railway
    (subst (λ (w : World). Extends a b (Observed outcome w.nodes lent ∷ [])) same grows)

-- what is shown after a round
pub shown_of : (a b : Option (List Shown)) (seen world : World) (lent railway : Option RailwayState) → seen ≡ world → lent ≡ railway → Extends a b (record { nodes = seen.nodes; railway = lent } ∷ [])
    → Extends a b (record { nodes = world.nodes; railway = railway } ∷ [])
shown_of a b seen world lent railway same same_railway grows =
    subst (λ (r : Option RailwayState). Extends a b (record { nodes = world.nodes; railway = r } ∷ [])) same_railway
    (subst (λ (w : World). Extends a b (record { nodes = w.nodes; railway = lent } ∷ [])) same grows)

-- What is served.

pub serves_more : (first second : List Handled) (old mid new : ServerState) → AppliesAll first old mid → AppliesAll second mid new → AppliesAll (first ++ second) old new
serves_more [] second old mid new same rest = subst (λ (s : ServerState). AppliesAll second s new) same rest
serves_more (one_handled ∷ first) second old mid new h rest = (h.0, h.1, serves_more first second h.0 mid new h.2 rest)

-- What is claimed of what passed, and of where it leads.
abbrev pub Claim : Type 1
Claim = List TransportEvent → ServerState → Type 0

pub goes_nowhere : (Holds : Claim) (now : Snapshot) → Holds [] now.state → Progresses Holds now now
goes_nowhere Holds now holds = ([], grows_none now.log, grows_none now.observed, refl, holds)

pub calm_nowhere : (Holds : Claim) (now : Snapshot) → Holds [] now.state → ProgressesWithoutInput Holds now now
calm_nowhere Holds now holds = goes_nowhere (λ more all. PreservesRound more now.state all × Holds more all) now (keeps_same [] now.state refl, holds)

-- one thing on the transport, and what it brought
pub goes_one : (Holds : Claim) (log : TransportEvent) (applied : List LoggedEvent) (old new : Snapshot) → Extends old.log new.log (log ∷ []) → Extends old.observed new.observed (overflow_notice log ++ observations_of applied)
    → Applies log applied old.state new.state → Holds (log ∷ []) new.state → Progresses Holds old new
goes_one Holds log applied old new grows observed does holds = (
  record { log = log; applied = applied } ∷ [],
  grows,
  subst (λ (more : List Observation). Extends old.observed new.observed more) (sym (append-nil (overflow_notice log ++ observations_of applied))) observed,
  (new.state, does, refl),
  holds,
)

pub goes_then : (P Q R : Claim) (old mid new : Snapshot) → ((first second : List TransportEvent) → P first mid.state → Q second new.state → R (first ++ second) new.state)
    → Progresses P old mid → Progresses Q mid new → Progresses R old new
goes_then P Q R old mid new both first second = (
  first.0 ++ second.0,
  wire_more old.log mid.log new.log first.0 second.0 first.1 second.1,
  acts_more old.observed mid.observed new.observed first.0 second.0 first.2 second.2,
  serves_more first.0 second.0 old.state mid.state new.state first.3 second.3,
  subst (λ (more : List TransportEvent). R more new.state) (sym (log-append first.0 second.0)) (both (transport_events first.0) (transport_events second.0) first.4 second.4),
)

pub calm_then : (P Q R : Claim) (old mid new : Snapshot)
    → ((first second : List TransportEvent) → PreservesRound second mid.state new.state → P first mid.state → Q second new.state → R (first ++ second) new.state)
    → ProgressesWithoutInput P old mid → ProgressesWithoutInput Q mid new → ProgressesWithoutInput R old new
calm_then P Q R old mid new both =
    goes_then (λ more all. PreservesRound more old.state all × P more all) (λ more all. PreservesRound more mid.state all × Q more all) (λ more all. PreservesRound more old.state all × R more all)
    old mid new (λ these those p q. (keeps_more these those old.state mid.state new.state p.0 q.0, both these those q.0 p.1 q.1))

-- something on the transport that changes nothing
pub same_on_wire : (Holds : Claim) (handled : List Handled) (more : List TransportEvent) (old new : Snapshot) → transport_events handled ≡ more → observations_in handled ≡ [] → Extends old.log new.log more → Extends old.observed new.observed []
    → AppliesAll handled old.state old.state → new.state ≡ old.state → IsUnread more → Holds more old.state → ProgressesWithoutInput Holds old new
same_on_wire Holds handled more old new are none grows observed serves same unread holds = (
  handled,
  subst (λ (all : List TransportEvent). Extends old.log new.log all) (sym are) grows,
  subst (λ (all : List Observation). Extends old.observed new.observed all) (sym none) observed,
  subst (λ (all : ServerState). AppliesAll handled old.state all) (sym same) serves,
  subst (λ (all : ServerState). PreservesRound (transport_events handled) old.state all × Holds (transport_events handled) all) (sym same)
      (keeps_same (transport_events handled) old.state (subst IsUnread (sym are) unread), subst (λ (all : List TransportEvent). Holds all old.state) (sym are) holds),
)

-- What happened.

pub happened_more : (first second : List LoggedEvent) (old mid new : ServerState) → RunsEvents first old mid → RunsEvents second mid new → RunsEvents (first ++ second) old new
happened_more [] second old mid new same rest = subst (λ (s : ServerState). RunsEvents second s new) same rest
happened_more (one ∷ first) second old mid new h rest = (h.0, h.1, happened_more first second h.0 mid new h.2 rest)

-- an event, and then what devices report
pub happened_then : (event : Event) (observed : Observation) (first reports : List LoggedEvent) (old mid after new : ServerState) → RunsEvents first old mid → RunsEvent event observed mid after → RunsEvents reports after new
    → RunsEvents (first ++ record { event = event; observed = observed } ∷ reports) old new
happened_then event observed first reports old mid after new h one rest = happened_more first (record { event = event; observed = observed } ∷ reports) old mid new h (after, one, rest)

pub same_pace : (applied : List LoggedEvent) (old new : ServerState) → RunsEvents applied old new → new.pace ≡ old.pace
same_pace [] old new same = ap (λ (s : ServerState). s.pace) same
same_pace (one ∷ more) old new h = same_pace more h.0 new h.2 ∙ h.1.pace

-- an event of a client draws nothing
pub none_drawn : (event : Event) (bus : BusState) (nodes : ℕ) (losses : Losses) → is_time event ≡ false → IsDrawn event bus nodes losses losses
none_drawn (Connects client) bus nodes losses h = refl
none_drawn (Receives client byte) bus nodes losses h = refl
none_drawn (Disconnects client) bus nodes losses h = refl
none_drawn (Reports message) bus nodes losses h = refl
none_drawn (Programs packet change) bus nodes losses h = refl
none_drawn (Elapses micros missed) bus nodes losses h = cc
none_drawn (Turn missed) bus nodes losses h = cc

-- What devices report takes no time.

-- only devices report
abbrev pub AreReports : List Event → Type 0
AreReports events = list_all is_report events ≡ true

pub reports_take_none : (reports : List Event) (bus : BusState) → AreReports reports → micros_in bus reports ≡ 0
reports_take_none [] bus are = refl
reports_take_none (Reports message ∷ reports) bus are = omega (arith, reports_take_none reports bus are)
reports_take_none (Programs packet change ∷ reports) bus are = omega (arith, reports_take_none reports bus are)
reports_take_none (Connects client ∷ reports) bus are = cc
reports_take_none (Receives client byte ∷ reports) bus are = cc
reports_take_none (Disconnects client ∷ reports) bus are = cc
reports_take_none (Elapses micros missed ∷ reports) bus are = cc
reports_take_none (Turn missed ∷ reports) bus are = cc

-- An outcome was observed, and then what devices report.

pub observes_first : (outcome : Outcome) (a b : Option (List Observation)) (old : ServerState) → Extends a b (Observed outcome old.nodes old.railway ∷ []) → ObservesReports outcome a b old old
observes_first outcome a b old grows = ([], grows, refl, refl)

one_report : (event : Event) → is_report event ≡ true → list_all is_report (event ∷ []) ≡ true
one_report event reports = rw reports refl

pub observes_more : (outcome next : Outcome) (event : Event) (a b c : Option (List Observation)) (old mid new : ServerState) → is_report event ≡ true → ObservesReports outcome a b old mid
    → RunsEvent event (Observed next new.nodes new.railway) mid new → Extends b c (Observed next new.nodes new.railway ∷ []) → ObservesReports outcome a c old new
observes_more outcome next event a b c old mid new reports so_far one grows =
    let last : LoggedEvent = record { event = event; observed = Observed next new.nodes new.railway } in (
      so_far.0 ++ last ∷ [],
      subst (λ (more : List Observation). Extends a c (Observed outcome old.nodes old.railway ∷ more)) (sym (map-append (λ (one : LoggedEvent). one.observed) so_far.0 (last ∷ [])))
          (grows_more a b c (Observed outcome old.nodes old.railway ∷ observations_of so_far.0) (Observed next new.nodes new.railway ∷ []) so_far.1 grows),
      ap (list_all is_report) (map-append (λ (one : LoggedEvent). one.event) so_far.0 (last ∷ [])) ∙ list_all-append is_report (events_of so_far.0) (event ∷ [])
          ∙ and_from (list_all is_report (events_of so_far.0)) (list_all is_report (event ∷ [])) so_far.2 (one_report event reports),
      happened_more so_far.0 (last ∷ []) old mid new so_far.3 (new, one, refl),
    )

-- Small things.

pub whatever : {T E P : Type 0} (r : Result T E) → P → OnOk r P
whatever (Ok value) p = p
whatever (Err fault) p = tt

pub none_of : {A : Type 0} (o : Option A) → not (is_some o) ≡ true → o ≡ None
none_of None h = refl
none_of (Some a) h = cc

pub some_of : (n : ℕ) → false ≡ (n == 0) → 0 < n
some_of zero h = cc
some_of (suc n) h = omega arith

-- the front of what waits, and the rest of it
pub piece_of : (send_queue : Option (List ℕ)) (piece : List ℕ) (count : ℕ) → piece ≡ take (length piece) (queued send_queue) → 0 < length piece → count ≤ length piece
    → send_queue ≡ Some (take count piece ++ drop count (queued send_queue))
piece_of None piece count front some within = absurd (omega (arith, some, ap length front, length-take {A = ℕ} (length piece) []))
piece_of (Some bytes) piece count front some within =
    ap Some (sym (ap (λ (xs : List ℕ). xs ++ drop count bytes) (ap (take count) front ∙ take-take count (length piece) bytes within) ∙ take-append-drop count bytes))
