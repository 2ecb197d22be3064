use Rattle.std.proofs.Common.{◌≡◌, ◌+◌, true, List, [], ◌∷◌, ◌++◌, take, drop, ap, subst, sym, ◌∙◌, arith, append_assoc, append-nil, drop_of_length-le, length-set}
use Rattle.std.specs.List.{slice_index_or}
use Rattle.std.proofs.lemmas.List.{drop_more, take_all, take_more_set}
use Rattle.station_core.specs.Seen.{Seen}
use Rattle.layout_core.specs.declared.node.Node.{Node}
use Rattle.layout_core.specs.World.{HaveHeard}
use Rattle.bus.specs.declared.event.Event.{Event}
use Rattle.bus.specs.declared.outcome.Outcome.{Outcome}
use Rattle.bus.specs.Bus.{BusState, after_event, after_events, is_event, outcome_of, outcomes_of}
use Rattle.bus.specs.Invariant.{IsInvariant}
use Rattle.bus.specs.Layout.{layout_event, layout_events}
use Rattle.bus.specs.State.{bus_state}
use Rattle.bus.proofs.Passing.{legal_at, one_legal}
use Rattle.bus.proofs.course.run.Goals as goal

abbrev event_at : goal.After-step → Event
event_at c = c.index-events-i.result

same_event : (c : goal.After-step) → slice_index_or c.args.events.now c.loop-i.i (event_at c) ≡ event_at c
same_event c = sym c.index-events-i.is

abbrev later : goal.After-step → List Event
later c = drop (c.loop-i.i + 1) c.args.events.now

abbrev before : goal.After-step → BusState
before c = bus_state c.loop-i.bus

abbrev after : goal.After-step → BusState
after c = bus_state c.step.new.self

here_legal : (c : goal.After-step) → is_event (event_at c) ≡ true
here_legal c =
    subst (λ (event : Event). is_event event ≡ true) (same_event c) (legal_at c.args.events.now c.loop-i.i (event_at c) c.loop-i-test.true c.requires.events)

-- the effect on the layout of the step and the rest, together
next_heard : (c : goal.After-step) (new : List Node) → HaveHeard (after c).station (layout_events (after c) (later c)) c.step.new.self.world.nodes new
    → HaveHeard (before c).station (layout_events (before c) (event_at c ∷ later c)) c.loop-i.bus.world.nodes new
next_heard c new rest =
    c.events_add_up.ensures.more (before c).station (layout_event (before c) (event_at c)) (layout_events (after_event (before c) (event_at c)) (later c))
    c.loop-i.bus.world.nodes c.step.new.self.world.nodes new c.step.ensures.nodes
    (subst (λ (seen : Seen). HaveHeard seen (layout_events (after_event (before c) (event_at c)) (later c)) c.step.new.self.world.nodes new)
    (sym (c.events_are_the_layout.ensures.one (before c) (event_at c) c.loop-i.invariant.kept (here_legal c)))
    (subst (λ (bus : BusState). HaveHeard bus.station (layout_events bus (later c)) c.step.new.self.world.nodes new) c.step.ensures.bus rest))

pub loop-i-preserved : goal.loop-i-preserved
loop-i-preserved c =
    let more : drop c.loop-i.i c.args.events.now ≡ event_at c ∷ later c =
    drop_more c.args.events.now c.loop-i.i (event_at c) c.loop-i-test.true ∙ ap (λ (event : Event). event ∷ later c) (same_event c) in
    record {
      rest =
          ap (λ (bus : BusState). after_events bus (later c)) c.step.ensures.bus
          ∙ subst (λ (events : List Event). after_events (before c) events ≡ after_events (bus_state c.args.bus.now) c.args.events.now) more c.loop-i.invariant.rest;
      written =
          ap (λ (outcome : List Outcome). outcome ++ outcomes_of (after c) (later c)) (take_more_set c.loop-i.outcome c.loop-i.i c.step.result (omega (arith, c.loop-i-test.true, c.loop-i.invariant.same_length)))
          ∙ append_assoc (take c.loop-i.i c.loop-i.outcome) (c.step.result ∷ []) (outcomes_of (after c) (later c))
          ∙ ap (λ (outcome : Outcome). take c.loop-i.i c.loop-i.outcome ++ outcome ∷ outcomes_of (after c) (later c)) c.step.ensures.outcome
          ∙ ap (λ (bus : BusState). take c.loop-i.i c.loop-i.outcome ++ outcome_of (before c) (event_at c) ∷ outcomes_of bus (later c)) c.step.ensures.bus
          ∙ subst (λ (events : List Event). take c.loop-i.i c.loop-i.outcome ++ outcomes_of (before c) events ≡ outcomes_of (bus_state c.args.bus.now) c.args.events.now) more c.loop-i.invariant.written;
      same_length = length-set c.loop-i.outcome c.loop-i.i c.step.result ∙ c.loop-i.invariant.same_length;
      heard = λ new rest.
          c.loop-i.invariant.heard new
          (subst (λ (events : List Event). HaveHeard (before c).station (layout_events (before c) events) c.loop-i.bus.world.nodes new) (sym more) (next_heard c new rest));
      kept =
          subst IsInvariant (sym c.step.ensures.bus)
          (c.events_are_the_layout.ensures.kept (before c) (event_at c ∷ []) c.loop-i.invariant.kept (one_legal (event_at c) (here_legal c)));
      same = record {
        lines = c.step.ensures.same.lines ∙ c.loop-i.invariant.same.lines;
        specs = c.step.ensures.same.specs ∙ c.loop-i.invariant.same.specs;
        count = c.step.ensures.same.count ∙ c.loop-i.invariant.same.count;
      };
    }

abbrev seen_first : goal.After-loop-i → BusState
seen_first c = bus_state c.args.bus.now

heard_all : (c : goal.After-loop-i) → HaveHeard (seen_first c).station (layout_events (seen_first c) c.args.events.now) c.args.bus.now.world.nodes c.loop-i.bus.world.nodes
heard_all c =
    c.loop-i.invariant.heard c.loop-i.bus.world.nodes
    (subst (λ (events : List Event). HaveHeard c.loop-i.bus.world.station (layout_events (bus_state c.loop-i.bus) events) c.loop-i.bus.world.nodes c.loop-i.bus.world.nodes)
    (sym (drop_of_length-le c.args.events.now c.loop-i-test.false)) (c.events_add_up.ensures.none c.loop-i.bus.world.station c.loop-i.bus.world.nodes))

none_left : (c : goal.After-loop-i) → drop c.loop-i.i c.args.events.now ≡ []
none_left c = drop_of_length-le c.args.events.now c.loop-i-test.false

pub returns-clause-bus : goal.returns-clause-bus
returns-clause-bus c = subst (λ (events : List Event). after_events (bus_state c.loop-i.bus) events ≡ after_events (seen_first c) c.args.events.now) (none_left c) c.loop-i.invariant.rest

pub returns-clause-outcome : goal.returns-clause-outcome
returns-clause-outcome c =
    sym (append-nil (take c.loop-i.i c.loop-i.outcome) ∙ take_all c.loop-i.i c.loop-i.outcome (omega (arith, c.loop-i-test.false, c.loop-i.invariant.same_length)))
    ∙ subst (λ (events : List Event). take c.loop-i.i c.loop-i.outcome ++ outcomes_of (bus_state c.loop-i.bus) events ≡ outcomes_of (seen_first c) c.args.events.now) (none_left c) c.loop-i.invariant.written

pub returns-clause-nodes : goal.returns-clause-nodes
returns-clause-nodes c = heard_all c

pub returns-clause-same : goal.returns-clause-same
returns-clause-same c = c.loop-i.invariant.same

pub returns-clause-layout : goal.returns-clause-layout
returns-clause-layout c =
    ap (λ (bus : BusState). bus.station) (returns-clause-bus c)
    ∙ sym (c.events_are_the_layout.ensures.station (seen_first c) c.args.events.now c.invariant_holds.ensures.kept c.requires.events)

pub returns-clause-headline : goal.returns-clause-headline
returns-clause-headline c =
    c.headline.ensures.headline (seen_first c) c.args.events.now c.args.bus.now.world.nodes c.loop-i.bus.world.nodes c.invariant_holds.ensures.desk (heard_all c)

pub returns-clause-in_time : goal.returns-clause-in_time
returns-clause-in_time c =
    c.headline.ensures.in_time (seen_first c) c.args.events.now c.args.bus.now.world.nodes c.loop-i.bus.world.nodes c.invariant_holds.ensures.kept c.requires.events c.invariant_holds.ensures.desk (heard_all c)
