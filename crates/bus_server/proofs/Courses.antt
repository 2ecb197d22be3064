-- All that happened in a run, in order, is one course of the bus.
use Rattle.std.proofs.Common.{◌≡◌, ℕ, List, [], ◌∷◌, ◌++◌, length, refl, ap, sym, subst, ◌∙◌, true}
use Rattle.std.specs.List.{flat_map, list_all}
use Rattle.std.proofs.lemmas.Bool.{and_parts, and_from}
use Rattle.std.proofs.lemmas.List.{append-nil, map-append}
use Rattle.station_core.specs.Seen.{Seen}
use Rattle.layout_core.specs.declared.event.Event.{Event as LayoutEvent}
use Rattle.layout_core.specs.declared.node.Node.{Node}
use Rattle.layout_core.specs.World.{HaveHeard}
use Rattle.bus.specs.declared.event.Event.{Event}
use Rattle.bus.specs.Bus.{AreEvents, BusState, after_event, after_events, is_event}
use Rattle.bus.specs.Invariant.{IsInvariant}
use Rattle.bus.specs.Layout.{layout_event, layout_events}
use Rattle.bus_server.specs.declared.pace.Pace.{Pace}
use Rattle.bus_server.specs.Observations.{Observation}
use Rattle.bus_server.specs.Running.{AreDrawn, RunsRounds, IsEventRun, Round, logged_in}
use Rattle.bus_server.specs.ServerState.{Handled, Applies, LoggedEvent, RunsEvent, RunsEvents, AppliesAll, ServerState, events_of, with_backlog, round_start}
use Rattle.bus_server.specs.TransportEvents.{Polled, ServerClosed, Accepted, WriteBlocked, PeerClosed, NonePending, TransportEvent, Written, ReadBlocked, Received, Refused}
use Rattle.bus_server.specs.declared.losses.Losses.{Losses}
use Rattle.bus_server.specs.Track.{RunsTrack}
use Rattle.bus_server.proofs.Rounding.{round_serves}
use Rattle.bus_server.proofs.Tracking.{HasRun, track_ran}

-- what the layers below promise: events of a bus keep it, and what decoders hear adds up
pub record Laws : Type 0 where
  pub kept : (bus : BusState) (events : List Event) → IsInvariant bus → AreEvents events → IsInvariant (after_events bus events)
  pub more : (bus : BusState) (events later : List Event) (old mid new : List Node) → IsInvariant bus → AreEvents events
      → HaveHeard bus.station (layout_events bus events) old mid
      → HaveHeard (after_events bus events).station (layout_events (after_events bus events) later) mid new
      → HaveHeard bus.station (layout_events bus (events ++ later)) old new
  pub none : (seen : Seen) (nodes : List Node) → HaveHeard seen [] nodes nodes

pub after-append : (events later : List Event) (bus : BusState) → after_events bus (events ++ later) ≡ after_events (after_events bus events) later
after-append [] later bus = refl
after-append (event ∷ events) later bus = after-append events later (after_event bus event)

drawn-append : (events later : List Event) (bus : BusState) (nodes : ℕ) (old mid new : Losses) → AreDrawn events bus nodes old mid → AreDrawn later (after_events bus events) nodes mid new → AreDrawn (events ++ later) bus nodes old new
drawn-append [] later bus nodes old mid new h k = subst (λ (losses : Losses). AreDrawn later bus nodes losses new) h k
drawn-append (event ∷ events) later bus nodes old mid new h k = (h.0, h.1, drawn-append events later (after_event bus event) nodes h.0 mid new h.2 k)

pub legal-append : (these those : List Event) → AreEvents these → AreEvents those → AreEvents (these ++ those)
legal-append [] those h k = k
legal-append (event ∷ these) those h k =
    let p = and_parts (is_event event) (list_all is_event these) h in
    and_from (is_event event) (list_all is_event (these ++ those)) p.0 (legal-append these those p.1 k)

pub course_same : Laws → (old new : ServerState) → new.bus ≡ old.bus → new.nodes ≡ old.nodes → new.losses ≡ old.losses → IsEventRun [] old new
course_same laws old new bus nodes losses = record { legal = refl; bus = bus; losses = losses; nodes = subst (λ (all : List Node). HaveHeard old.bus.station [] old.nodes all) (sym nodes) (laws.none old.bus.station old.nodes) }

still_kept : Laws → (events : List Event) (old new : ServerState) → IsInvariant old.bus → IsEventRun events old new → IsInvariant new.bus
still_kept laws events old new kept course = subst IsInvariant (sym course.bus) (laws.kept old.bus events kept course.legal)

pub course_more : Laws → (first second : List Event) (old mid new : ServerState) → IsInvariant old.bus → IsEventRun first old mid → (IsInvariant mid.bus → IsEventRun second mid new) → IsEventRun (first ++ second) old new
course_more laws first second old mid new kept h rest =
    let k = rest (still_kept laws first old mid kept h) in
    record {
      legal = legal-append first second h.legal k.legal;
      bus = k.bus ∙ ap (λ (bus : BusState). after_events bus second) h.bus ∙ sym (after-append first second old.bus);
      nodes = laws.more old.bus first second old.nodes mid.nodes new.nodes kept h.legal h.nodes
          (subst (λ (bus : BusState). HaveHeard bus.station (layout_events bus second) mid.nodes new.nodes) h.bus k.nodes);
      losses = drawn-append first second old.bus (length old.nodes) old.losses mid.losses new.losses h.losses
          (subst (λ (bus : BusState). AreDrawn second bus (length old.nodes) mid.losses new.losses) h.bus
          (subst (λ (nodes : ℕ). AreDrawn second mid.bus nodes mid.losses new.losses) h.nodes.count k.losses));
    }

one_course : (event : Event) (observed : Observation) (old new : ServerState) → RunsEvent event observed old new → IsEventRun (event ∷ []) old new
one_course event observed old new h = record {
  legal = and_from (is_event event) true h.legal refl;
  bus = h.bus;
  nodes = subst (λ (events : List LayoutEvent). HaveHeard old.bus.station events old.nodes new.nodes) (sym (append-nil (layout_event old.bus event))) h.nodes;
  losses = (new.losses, h.losses, refl);
}

same_end : Laws → (old new : ServerState) → new ≡ old → IsEventRun [] old new
same_end laws old new same = course_same laws old new (ap (λ (s : ServerState). s.bus) same) (ap (λ (s : ServerState). s.nodes) same) (ap (λ (s : ServerState). s.losses) same)

pub happened_course : Laws → (happened : List LoggedEvent) (old new : ServerState) → IsInvariant old.bus → RunsEvents happened old new → IsEventRun (events_of happened) old new
happened_course laws [] old new kept h = same_end laws old new h
happened_course laws (one ∷ more) old new kept h =
    course_more laws (one.event ∷ []) (events_of more) old h.0 new kept (one_course one.event one.observed old h.0 h.1) (λ k. happened_course laws more h.0 new k h.2)

nothing_brought : Laws → (applied : List LoggedEvent) (old new : ServerState) → applied ≡ [] → new.bus ≡ old.bus → new.nodes ≡ old.nodes → new.losses ≡ old.losses → IsEventRun (events_of applied) old new
nothing_brought laws applied old new none bus nodes losses = subst (λ (all : List LoggedEvent). IsEventRun (events_of all) old new) (sym none) (course_same laws old new bus nodes losses)

pub nothing_done : Laws → (applied : List LoggedEvent) (old new : ServerState) → applied ≡ [] → new ≡ old → IsEventRun (events_of applied) old new
nothing_done laws applied old new none same = nothing_brought laws applied old new none (ap (λ (s : ServerState). s.bus) same) (ap (λ (s : ServerState). s.nodes) same) (ap (λ (s : ServerState). s.losses) same)

-- that there may be more input changes nothing
pub course_behind : (events : List Event) (old new : ServerState) → IsEventRun events (with_backlog old) new → IsEventRun events old new
course_behind events old new h = record { legal = h.legal; bus = h.bus; nodes = h.nodes; losses = h.losses }

pub course_polled : (events : List Event) (old new : ServerState) → IsEventRun events (round_start old) new → IsEventRun events old new
course_polled events old new h = record { legal = h.legal; bus = h.bus; nodes = h.nodes; losses = h.losses }

pub act_course : Laws → (log : TransportEvent) (applied : List LoggedEvent) (old new : ServerState) → IsInvariant old.bus → Applies log applied old new → IsEventRun (events_of applied) old new
act_course laws (Accepted client) applied old new kept h = course_behind (events_of applied) old new (happened_course laws applied (with_backlog old) new kept h.1.2)
act_course laws (Received client byte) applied old new kept h = course_behind (events_of applied) old new (happened_course laws applied (with_backlog old) new kept h.1.2)
act_course laws (PeerClosed client) applied old new kept h = happened_course laws applied old new kept h.2
act_course laws (ServerClosed client) applied old new kept h = happened_course laws applied old new kept h.1.2
act_course laws (Written client bytes) applied old new kept h = nothing_brought laws applied old new h.0 (ap (λ (s : ServerState). s.bus) h.3) (ap (λ (s : ServerState). s.nodes) h.3) (ap (λ (s : ServerState). s.losses) h.3)
act_course laws Refused applied old new kept h = nothing_brought laws applied old new h.0 (ap (λ (s : ServerState). s.bus) h.2) (ap (λ (s : ServerState). s.nodes) h.2) (ap (λ (s : ServerState). s.losses) h.2)
act_course laws (Polled longest) applied old new kept h = absurd h
act_course laws (ReadBlocked client) applied old new kept h = nothing_done laws applied old new h.0 h.1
act_course laws (WriteBlocked client) applied old new kept h = nothing_done laws applied old new h.0 h.1
act_course laws NonePending applied old new kept h = nothing_done laws applied old new h.0 h.1

pub cut_course : (first second : List LoggedEvent) (old new : ServerState) → IsEventRun (events_of first ++ events_of second) old new → IsEventRun (events_of (first ++ second)) old new
cut_course first second old new = subst (λ (events : List Event). IsEventRun events old new) (sym (map-append (λ (one : LoggedEvent). one.event) first second))

pub acts_course : Laws → (handled : List Handled) (old new : ServerState) → IsInvariant old.bus → AppliesAll handled old new → IsEventRun (events_of (flat_map (λ one_handled. one_handled.applied) handled)) old new
acts_course laws [] old new kept h = same_end laws old new h
acts_course laws (one_handled ∷ handled) old new kept h =
    cut_course one_handled.applied (flat_map (λ one_handled. one_handled.applied) handled) old new
    (course_more laws (events_of one_handled.applied) (events_of (flat_map (λ one_handled. one_handled.applied) handled)) old h.0 new kept (act_course laws one_handled.log one_handled.applied old h.0 kept h.1) (λ k. acts_course laws handled h.0 new k h.2))

pub ran_course : Laws → (applied : List LoggedEvent) (old new : ServerState) → IsInvariant old.bus → HasRun applied old new → IsEventRun (events_of applied) old new
ran_course laws applied old new kept h =
    let course = happened_course laws applied old h.0 kept h.1 in
    subst (λ (s : ServerState). IsEventRun (events_of applied) old s) (sym h.2) (record { legal = course.legal; bus = course.bus; nodes = course.nodes; losses = course.losses })

pub time_course : Laws → (pace : Pace) (readings : List ℕ) (elapsing : List LoggedEvent) (old new : ServerState) → IsInvariant old.bus → RunsTrack pace readings elapsing old new → IsEventRun (events_of elapsing) old new
time_course laws pace readings elapsing old new kept h = ran_course laws elapsing old new kept (track_ran pace readings elapsing old new h)

pub rounds_course : Laws → (most : ℕ) (rounds : List Round) (old new : ServerState) → IsInvariant old.bus → RunsRounds most rounds old new → IsEventRun (events_of (logged_in rounds)) old new
rounds_course laws most [] old new kept h = same_end laws old new h
rounds_course laws most (round ∷ rounds) old new kept h =
    let went = h.2 in
    let handled = flat_map (λ one_handled. one_handled.applied) round.handled in
    cut_course (handled ++ round.elapsing) (logged_in rounds) old new
    (course_more laws (events_of (handled ++ round.elapsing)) (events_of (logged_in rounds)) old h.1 new kept
    (cut_course handled round.elapsing old h.1
    (course_more laws (events_of handled) (events_of round.elapsing) old went.1 h.1 kept
    (course_polled (events_of handled) old went.1 (acts_course laws round.handled (round_start old) went.1 kept (round_serves round.handled (round_start old) went.1 went.2)))
    (λ k. time_course laws went.1.pace round.readings round.elapsing went.1 h.1 k went.3)))
    (λ k. rounds_course laws most rounds h.1 new k h.3))
