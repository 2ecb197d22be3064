-- The headline in time goes on.
use Rattle.std.proofs.Common.{◌≡◌, ℕ, List, [], ◌∷◌, ◌++◌, refl, ap, sym, subst, ◌∙◌, append_assoc}
use Rattle.station_core.specs.declared.call.Call.{Call}
use Rattle.station_core.specs.Moments.{AtEveryMoment, IsLive}
use Rattle.station_core.specs.Powered.{PoweredDesk}
use Rattle.station_core.specs.Runs.{state_after}
use Rattle.station_core.specs.Seen.{Seen, known_of}
use Rattle.station_core.specs.ThrottleView.{ThrottleView, known_after, known_after_all}
use Rattle.layout_core.specs.declared.event.Event.{Event as LayoutEvent}
use Rattle.layout_core.specs.declared.event.Event.TheVariants.{Byte as LayoutByte, Turn as LayoutTurn, Noise as LayoutNoise}
use Rattle.layout_core.specs.declared.node.Node.{Node}
use Rattle.layout_core.specs.Cycle.{MissesNone, RunsOnAsWanted}
use Rattle.layout_core.specs.Events.{calls_in, calls_of}
use Rattle.layout_core.specs.Played.{after_event as played_event, after_events as played}
use Rattle.bus.specs.declared.event.Event.{Event}
use Rattle.bus.specs.Below.{TurnsAreBounded}
use Rattle.bus.specs.Bus.{AreEvents, BusState, after_events, outcomes_of}
use Rattle.bus.specs.Course.{micros_in, turn_durations}
use Rattle.bus.specs.Cycle.{Assignment, IsHeard, RunsOnInTime, known_at}
use Rattle.bus.specs.Invariant.{IsInvariant}
use Rattle.bus.specs.Layout.{layout_events}
use Rattle.bus.specs.Time.{IsTimeAccount}
use Rattle.bus.proofs.InTime.{end_legal, front_legal, full, quiet}

-- what the layout's events of two lists are
abbrev pub IsCut : Type 0
IsCut = (bus : BusState) (events later : List Event) → layout_events bus (events ++ later) ≡ layout_events bus events ++ layout_events (after_events bus events) later

-- the first of the events

misses_front : (i : ℕ) (events later : List LayoutEvent) → MissesNone i (events ++ later) → MissesNone i events
misses_front i [] later misses = tt
misses_front i (LayoutByte line byte ∷ events) later misses = misses_front i events later misses
misses_front i (LayoutTurn missed ∷ events) later misses = (misses.0, misses_front i events later misses.1)
misses_front i (LayoutNoise node half ∷ events) later misses = misses_front i events later misses

calls-append : (events later : List LayoutEvent) → calls_in (events ++ later) ≡ calls_in events ++ calls_in later
calls-append [] later = refl
calls-append (event ∷ events) later =
    ap (λ (calls : List Call). calls_of event ++ calls) (calls-append events later) ∙ sym (append_assoc (calls_of event) (calls_in events) (calls_in later))

moments_front : (P : PoweredDesk → Type 0) (known : ThrottleView) (calls later : List Call) → AtEveryMoment P known (calls ++ later) → AtEveryMoment P known calls
moments_front P known [] [] moments = moments
moments_front P known [] (call ∷ later) moments = moments.0
moments_front P known (call ∷ calls) later moments = (moments.0, moments_front P (known_after known call) calls later moments.1)

pub heard_so_far : IsCut → (asked : Assignment) (start : BusState) (before cycle later more : List Event) → IsHeard asked start before cycle (later ++ more) → IsHeard asked start before cycle later
heard_so_far cut asked start before cycle later more h =
    let mid : BusState = after_events start before in
    let front : List LayoutEvent = layout_events mid (cycle ++ later) in
    let rest : List LayoutEvent = layout_events (after_events mid (cycle ++ later)) more in
    let parts : layout_events mid (cycle ++ (later ++ more)) ≡ front ++ rest = ap (layout_events mid) (sym (append_assoc cycle later more)) ∙ cut mid (cycle ++ later) more in
    let calls : calls_in (layout_events mid (cycle ++ (later ++ more))) ≡ calls_in front ++ calls_in rest = ap calls_in parts ∙ calls-append front rest in
    record {
      between = h.between;
      hears = record {
        answers = h.hears.answers;
        steps = h.hears.steps;
        misses = misses_front asked.node front rest (subst (MissesNone asked.node) parts h.hears.misses);
        quiet = quiet asked.node (cycle ++ later) mid;
      };
      timed = h.timed;
      asks = record {
        live = moments_front _ (known_at start before) (calls_in front) (calls_in rest) (subst (AtEveryMoment _ (known_at start before)) calls h.asks.live);
        stands = moments_front _ (known_at start before) (calls_in front) (calls_in rest) (subst (AtEveryMoment _ (known_at start before)) calls h.asks.stands);
      };
    }

-- the last moment

known-append : (known : ThrottleView) (calls later : List Call) → known_after_all known (calls ++ later) ≡ known_after_all (known_after_all known calls) later
known-append known [] later = refl
known-append known (call ∷ calls) later = known-append (known_after known call) calls later

last_moment : (P : PoweredDesk → Type 0) (known : ThrottleView) (calls : List Call) → AtEveryMoment P known calls → P (known_after_all known calls).powered
last_moment P known [] now = now
last_moment P known (call ∷ calls) moments = last_moment P (known_after known call) calls moments.1

played-calls : (seen : Seen) (events : List LayoutEvent) → played seen events ≡ state_after seen (calls_in events)
played-calls seen [] = refl
played-calls seen (LayoutByte line byte ∷ events) = played-calls (played_event seen (LayoutByte line byte)) events
played-calls seen (LayoutTurn missed ∷ events) = played-calls (played_event seen (LayoutTurn missed)) events
played-calls seen (LayoutNoise node half ∷ events) = played-calls seen events

live_there : IsCut
    → ((start : Seen) (calls : List Call) → (state_after start calls).powered ≡ (known_after_all (known_of start) calls).powered)
    → ((bus : BusState) (events : List Event) → IsInvariant bus → AreEvents events → played bus.station (layout_events bus events) ≡ (after_events bus events).station)
    → (slot : ℕ) (start : BusState) (before heard : List Event) → IsInvariant start → AreEvents (before ++ heard)
    → AtEveryMoment (IsLive slot) (known_at start before) (calls_in (layout_events (after_events start before) heard))
    → IsLive slot (after_events start (before ++ heard)).station.powered
live_there cut reported plays slot start before heard h legal live =
    let first : List LayoutEvent = layout_events start before in
    let second : List LayoutEvent = layout_events (after_events start before) heard in
    let calls : calls_in (layout_events start (before ++ heard)) ≡ calls_in first ++ calls_in second = ap calls_in (cut start before heard) ∙ calls-append first second in
    let same : (after_events start (before ++ heard)).station.powered ≡ (known_after_all (known_at start before) (calls_in second)).powered =
    ap (λ (seen : Seen). seen.powered) (sym (plays start (before ++ heard) h legal) ∙ played-calls start.station (layout_events start (before ++ heard)))
    ∙ reported start.station (calls_in (layout_events start (before ++ heard)))
    ∙ ap (λ (all : List Call). (known_after_all (known_of start.station) all).powered) calls
    ∙ ap (λ (known : ThrottleView). known.powered) (known-append (known_of start.station) (calls_in first) (calls_in second)) in
    subst (IsLive slot) (sym same) (last_moment (IsLive slot) (known_at start before) (calls_in second) live)

pub runs_on_in_time : TurnsAreBounded → IsCut
    → ((bus : BusState) (events : List Event) → IsInvariant bus → AreEvents events → IsInvariant (after_events bus events))
    → ((bus : BusState) (events : List Event) → IsInvariant bus → AreEvents events → IsTimeAccount bus.remaining (micros_in bus events) (turn_durations (outcomes_of bus events)) (after_events bus events).remaining)
    → ((start : Seen) (calls : List Call) → (state_after start calls).powered ≡ (known_after_all (known_of start) calls).powered)
    → ((bus : BusState) (events : List Event) → IsInvariant bus → AreEvents events → played bus.station (layout_events bus events) ≡ (after_events bus events).station)
    → (start : BusState) (events : List Event) (old new : List Node) → IsInvariant start → AreEvents events
    → RunsOnAsWanted (known_of start.station) (layout_events start events) old new → RunsOnInTime start events old new
runs_on_in_time laws cut keeps passes reported plays start events old new h legal runs asked before cycle later none split below stands heard =
    let mid : BusState = after_events start before in
    let both : AreEvents (before ++ (cycle ++ later)) = subst AreEvents split legal in
    let kept : IsInvariant mid = keeps start before h (front_legal before (cycle ++ later) both) in
    let legal_cycle : AreEvents cycle = front_legal cycle later (end_legal before (cycle ++ later) both) in (
      runs (layout_events start before) (layout_events mid (cycle ++ later)) asked.node asked.loco none
          (ap (layout_events start) split ∙ cut start before (cycle ++ later)) below stands
          (layout_events mid cycle) (layout_events (after_events mid cycle) later) asked.slot asked.address asked.entry
          (cut mid cycle later) heard.between (quiet asked.node before start) heard.hears
          (full laws asked.slot asked.address asked.entry (known_at start before) mid cycle kept (passes mid cycle kept legal_cycle) heard.timed)
          heard.asks,
      subst (λ (all : List Event). IsLive asked.slot (after_events start all).station.powered) (sym split)
          (live_there cut reported plays asked.slot start before (cycle ++ later) h both heard.asks.live),
    )
