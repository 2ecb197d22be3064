-- Lists of events.
use Rattle.std.proofs.Common.{◌≡◌, true, List, [], ◌∷◌, ◌++◌, refl, ap, subst, sym, ◌∙◌, append_assoc}
use Rattle.std.specs.List.{list_all}
use Rattle.std.proofs.lemmas.Bool.{and_parts}
use Rattle.station_core.specs.Seen.{Seen}
use Rattle.layout_core.specs.declared.event.Event.{Event as LayoutEvent}
use Rattle.layout_core.specs.declared.node.Node.{Node}
use Rattle.layout_core.specs.Played.{after_events as played}
use Rattle.layout_core.specs.World.{HaveHeard}
use Rattle.bus.specs.declared.event.Event.{Event}
use Rattle.bus.specs.Bus.{AreEvents, BusState, after_event, after_events, is_event}
use Rattle.bus.specs.Invariant.{IsInvariant}
use Rattle.bus.specs.Layout.{layout_event, layout_events}
use Rattle.bus.specs.Below.{StationMoves, TurnsAreBounded}
use Rattle.bus.proofs.Steps.{keeps, plays}

pub first_legal : (event : Event) (events : List Event) → AreEvents (event ∷ events) → is_event event ≡ true
first_legal event events legal = (and_parts (is_event event) (list_all is_event events) legal).0

pub rest_legal : (event : Event) (events : List Event) → AreEvents (event ∷ events) → AreEvents events
rest_legal event events legal = (and_parts (is_event event) (list_all is_event events) legal).1

pub all_kept : TurnsAreBounded → (events : List Event) (bus : BusState) → IsInvariant bus → AreEvents events → IsInvariant (after_events bus events)
all_kept laws [] bus h legal = h
all_kept laws (event ∷ events) bus h legal =
    all_kept laws events (after_event bus event) (keeps laws bus event h (first_legal event events legal)) (rest_legal event events legal)

-- events of a layout, and then more
played-append : (these those : List LayoutEvent) (seen : Seen) → played seen (these ++ those) ≡ played (played seen these) those
played-append [] those seen = refl
played-append (event ∷ these) those seen = played-append these those (Rattle.layout_core.specs.Played.after_event seen event)

pub all_played : TurnsAreBounded → StationMoves → (events : List Event) (bus : BusState) → IsInvariant bus → AreEvents events
    → played bus.station (layout_events bus events) ≡ (after_events bus events).station
all_played bounds laws [] bus h legal = refl
all_played bounds laws (event ∷ events) bus h legal =
    let later : BusState = after_event bus event in
    played-append (layout_event bus event) (layout_events later events) bus.station
    ∙ ap (λ (seen : Seen). played seen (layout_events later events)) (plays laws bus event h (first_legal event events legal))
    ∙ all_played bounds laws events later (keeps bounds bus event h (first_legal event events legal)) (rest_legal event events legal)

-- The layout's events for events, and for more after them.

pub layout-append : (events later : List Event) (bus : BusState) → layout_events bus (events ++ later) ≡ layout_events bus events ++ layout_events (after_events bus events) later
layout-append [] later bus = refl
layout-append (event ∷ events) later bus =
    ap (λ (rest : List LayoutEvent). layout_event bus event ++ rest) (layout-append events later (after_event bus event))
    ∙ sym (append_assoc (layout_event bus event) (layout_events (after_event bus event) events) (layout_events (after_events (after_event bus event) events) later))

-- What was heard of events, and then of more.

pub heard_more : ((seen : Seen) (events later : List LayoutEvent) (old mid new : List Node) → HaveHeard seen events old mid → HaveHeard (played seen events) later mid new → HaveHeard seen (events ++ later) old new)
    → (bus : BusState) (events later : List Event) (old mid new : List Node) → played bus.station (layout_events bus events) ≡ (after_events bus events).station
    → HaveHeard bus.station (layout_events bus events) old mid → HaveHeard (after_events bus events).station (layout_events (after_events bus events) later) mid new
    → HaveHeard bus.station (layout_events bus (events ++ later)) old new
heard_more adds_up bus events later old mid new station first second =
    subst (λ (all : List LayoutEvent). HaveHeard bus.station all old new) (sym (layout-append events later bus))
    (adds_up bus.station (layout_events bus events) (layout_events (after_events bus events) later) old mid new first
    (subst (λ (seen : Seen). HaveHeard seen (layout_events (after_events bus events) later) mid new) (sym station) second))
