-- A run, one round after another.
use Rattle.std.proofs.Common.{◌≡◌, ℕ, ◌⊎◌, ◌≤◌, ◌-◌, ◌^◌, List, [], ◌∷◌, ◌++◌, length, Option, refl, sym, subst}
use Rattle.std.specs.List.{flat_map}
use Rattle.std.proofs.lemmas.List.Concat.{flat_map-append}
use Rattle.station_core.specs.Powered.{HasDesk}
use Rattle.layout_core.specs.declared.node.Node.{Node}
use Rattle.layout_core.specs.World.{HaveHeard}
use Rattle.bus.specs.Log.{Extends}
use Rattle.bus.specs.declared.event.Event.{Event}
use Rattle.bus.specs.Bus.{AreEvents, BusState}
use Rattle.bus.specs.Invariant.{IsInvariant}
use Rattle.bus.specs.Layout.{layout_events}
use Rattle.bus.specs.Cycle.{RunsInTime}
use Rattle.bus_server.specs.Running.{HasGrown, IsEventRun, RunsRounds, IsRun, Round, RunsLogged, RunSnapshot, logged_in, skipped}
use Rattle.bus_server.specs.ServerState.{ServerState, events_of, transport_events, observations_in, observations_of}
use Rattle.bus_server.specs.TransportEvents.{Polled}
use Rattle.bus_server.proofs.Courses.{Laws, rounds_course}
use Rattle.bus_server.proofs.Going.{grows_more, grows_none}

pub runs_none : (most : ℕ) (now : RunSnapshot) → RunsLogged most [] now now
runs_none most now = ((grows_none now.log, grows_none now.readings, grows_none now.observed, grows_none now.shown), refl)

pub rounds_more : (most : ℕ) (first second : List Round) (old mid new : ServerState) → RunsRounds most first old mid → RunsRounds most second mid new → RunsRounds most (first ++ second) old new
rounds_more most [] second old mid new same rest = subst (λ (s : ServerState). RunsRounds most second s new) same rest
rounds_more most (round ∷ first) second old mid new h rest = (h.0, h.1, h.2, rounds_more most first second h.1 mid new h.3 rest)

pub logs_more : {A : Type 0} (of : Round → List A) (a b c : Option (List A)) (first second : List Round) → Extends a b (flat_map of first) → Extends b c (flat_map of second) → Extends a c (flat_map of (first ++ second))
logs_more {A = A} of a b c first second h k =
    subst (λ (more : List A). Extends a c more) (sym (flat_map-append of first second)) (grows_more a b c (flat_map of first) (flat_map of second) h k)

pub has_grown : (first second : List Round) (old mid new : RunSnapshot) → HasGrown first old mid → HasGrown second mid new → HasGrown (first ++ second) old new
has_grown first second old mid new h k = (
  logs_more (λ round. Polled round.longest ∷ transport_events round.handled) old.log mid.log new.log first second h.0 k.0,
  logs_more (λ round. round.readings) old.readings mid.readings new.readings first second h.1 k.1,
  logs_more (λ round. observations_in round.handled ++ (flat_map skipped round.readings ++ observations_of round.elapsing)) old.observed mid.observed new.observed first second h.2 k.2,
  logs_more (λ round. round.shown) old.shown mid.shown new.shown first second h.3 k.3,
)

pub runs_then : (most : ℕ) (first second : List Round) (old mid new : RunSnapshot) → RunsLogged most first old mid → RunsLogged most second mid new → RunsLogged most (first ++ second) old new
runs_then most first second old mid new h k = (has_grown first second old mid new h.0 k.0, rounds_more most first second old.state mid.state new.state h.1 k.1)

-- the headline in time, as the layer below promises it
abbrev pub Headline : Type 0
Headline = (start : BusState) (events : List Event) (old new : List Node) → IsInvariant start → AreEvents events → HasDesk start.station.powered
    → HaveHeard start.station (layout_events start events) old new → RunsInTime start events old new

pub rounds_are_a_run : Laws → Headline → (most : ℕ) (rounds : List Round) (old new : ServerState) → IsInvariant old.bus → HasDesk old.bus.station.powered → RunsRounds most rounds old new
    → IsEventRun (events_of (logged_in rounds)) old new × RunsInTime old.bus (events_of (logged_in rounds)) old.nodes new.nodes
rounds_are_a_run laws headline most rounds old new kept desk runs =
    let course = rounds_course laws most rounds old new kept runs in
    (course, headline old.bus (events_of (logged_in rounds)) old.nodes new.nodes kept course.legal desk course.nodes)

pub run_ends : Laws → Headline → (most : ℕ) (rounds : List Round) (old new : RunSnapshot) → IsInvariant old.state.bus → HasDesk old.state.bus.station.powered → RunsLogged most rounds old new
    → (most ≤ new.state.disconnected) ⊎ (length rounds ≡ 2 ^ 64 - 1) → IsRun most old new
run_ends laws headline most rounds old new kept desk runs ended =
    let is_run = rounds_are_a_run laws headline most rounds old.state new.state kept desk runs.1 in
    (rounds, runs, ended, is_run.0, is_run.1)
