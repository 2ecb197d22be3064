use Rattle.std.proofs.Common.{◌≡◌, ℕ, length, ◌+◌, List, [], ◌∷◌, ◌++◌, drop, take, map, ap, sym, subst, ◌∙◌, rules, arith, append_assoc, drop_of_length-le}
use Rattle.std.proofs.lemmas.Bool.{and_parts}
use Rattle.std.proofs.lemmas.List.{drop_more, take_more_set}
use Rattle.std.specs.Prelude.{IsTrue}
use Rattle.station_core.specs.declared.call.Step.{Step}
use Rattle.station_core.specs.Powered.{HasDesk}
use Rattle.station_core.specs.Seen.{Seen}
use Rattle.layout_core.specs.declared.event.Event.{Event}
use Rattle.layout_core.specs.Played.{after_events, answer_to, answers_to, is_event}
use Rattle.layout_core.specs.World.{AfterEvent, HaveHeard}
use Rattle.station_c.specs.declared.answer.Answer.{Answer}
use Rattle.station_c.specs.declared.event.EventFields.{EventFields}
use Rattle.station_c.specs.Answer.{answered}
use Rattle.station_c.specs.Event.{event_of}
use Rattle.station_c.proofs.Events.{one_at}
use Rattle.station_c.proofs.run.run.Goals as goal

pub step-step-requires : goal.step-step-requires
step-step-requires c =
    subst (λ (lines : ℕ). IsTrue (is_event lines (length c.loop-i.world.nodes) c.read.result)) (sym c.loop-i.invariant.same.lines)
    (subst (λ (nodes : ℕ). IsTrue (is_event (length c.args.world.now.station.lines) nodes c.read.result)) (sym c.loop-i.invariant.same.count)
    (subst (λ (event : Event). IsTrue (is_event (length c.args.world.now.station.lines) (length c.args.world.now.nodes) event)) (sym c.read.ensures)
    (and_parts _ _ (one_at _ _ c.args.events.now c.loop-i.i _ c.loop-i-test.true c.requires.events)).1))

pub loop-i-preserved : goal.loop-i-preserved
loop-i-preserved c =
    let i = c.loop-i.i in
    let before : Seen = c.loop-i.world.station in
    let after : Seen = c.step-step.new.self.station in
    let event : Event = c.read.result in
    let later : List Event = map event_of (drop (i + 1) c.args.events.now) in
    let more : map event_of (drop i c.args.events.now) ≡ event ∷ later =
    ap (λ (fields : List EventFields). map event_of fields) (drop_more c.args.events.now i _ c.loop-i-test.true) ∙ ap (λ (e : Event). e ∷ later) (sym c.read.ensures) in
    let turned : AfterEvent event (answer_to before event) c.loop-i.world.nodes c.step-step.new.self.nodes =
    subst (λ (step : Step). AfterEvent event step c.loop-i.world.nodes c.step-step.new.self.nodes) c.step-step.ensures.answer c.step-step.ensures.nodes in
    let driven : c.answered.result ≡ answered (answer_to before event) = c.answered.ensures ∙ ap answered c.step-step.ensures.answer in
    let written : List Answer = take i c.loop-i.answers in
    record {
      rest =
          ap (λ (s : Seen). after_events s later) c.step-step.ensures.station
          ∙ ap (λ (events : List Event). after_events before events) (sym more)
          ∙ c.loop-i.invariant.rest;
      written =
          ap (λ (answers : List Answer). answers ++ map answered (answers_to after later)) (take_more_set c.loop-i.answers i c.answered.result (omega (arith, c.loop-i-test.true, c.loop-i.invariant.same_length)))
          ∙ append_assoc written (c.answered.result ∷ []) (map answered (answers_to after later))
          ∙ ap (λ (answer : Answer). written ++ answer ∷ map answered (answers_to after later)) driven
          ∙ ap (λ (s : Seen). written ++ answered (answer_to before event) ∷ map answered (answers_to s later)) c.step-step.ensures.station
          ∙ ap (λ (events : List Event). written ++ map answered (answers_to before events)) (sym more)
          ∙ c.loop-i.invariant.written;
      heard = λ new rest.
          c.loop-i.invariant.heard new
          (subst (λ (events : List Event). HaveHeard before events c.loop-i.world.nodes new) (sym more)
          (c.events_add_up.ensures.more before (event ∷ []) later c.loop-i.world.nodes c.step-step.new.self.nodes new
          (c.events_add_up.ensures.one before event c.loop-i.world.nodes c.step-step.new.self.nodes turned)
          (subst (λ (s : Seen). HaveHeard s later c.step-step.new.self.nodes new) c.step-step.ensures.station rest)));
      same_length = search rules;
      same = search rules;
    }

abbrev none_left : (c : goal.After-loop-i) → map event_of (drop c.loop-i.i c.args.events.now) ≡ []
none_left c = ap (λ (fields : List EventFields). map event_of fields) (drop_of_length-le c.args.events.now c.loop-i-test.false)

pub returns-clause-station : goal.returns-clause-station
returns-clause-station c = ap (λ (events : List Event). after_events c.loop-i.world.station events) (sym (none_left c)) ∙ c.loop-i.invariant.rest

pub returns-clause-nodes : goal.returns-clause-nodes
returns-clause-nodes c =
    c.loop-i.invariant.heard c.loop-i.world.nodes
    (subst (λ (events : List Event). HaveHeard c.loop-i.world.station events c.loop-i.world.nodes c.loop-i.world.nodes) (sym (none_left c))
    (c.events_add_up.ensures.none c.loop-i.world.station c.loop-i.world.nodes))

has_desk : (c : goal.After-loop-i) → HasDesk c.args.world.now.station.powered
has_desk c = subst (λ (s : Seen). HasDesk s.powered) c.station.ensures c.always_legal.ensures.desk

pub returns-clause-headline : goal.returns-clause-headline
returns-clause-headline c =
    c.headline.ensures.headline c.args.world.now.station (map event_of c.args.events.now) c.args.world.now.nodes c.loop-i.world.nodes (has_desk c) (returns-clause-nodes c)

pub returns-clause-after_noise : goal.returns-clause-after_noise
returns-clause-after_noise c =
    c.headline.ensures.after_noise c.args.world.now.station (map event_of c.args.events.now) c.args.world.now.nodes c.loop-i.world.nodes (has_desk c) (returns-clause-nodes c)
