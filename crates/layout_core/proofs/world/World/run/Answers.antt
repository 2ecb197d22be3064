use Rattle.std.proofs.Common.{◌≡◌, ℕ, ◌+◌, List, [], ◌∷◌, ◌++◌, take, drop, length, ap, sym, subst, ◌∙◌, rules, arith, append_assoc, drop_of_length-le}
use Rattle.std.proofs.lemmas.List.{drop_more, take_more_set}
use Rattle.std.specs.List.{slice_index_or}
use Rattle.std.specs.Prelude.{IsTrue}
use Rattle.station_core.specs.declared.call.Step.{Step}
use Rattle.station_core.specs.Seen.{Seen, known_of}
use Rattle.layout_core.specs.declared.event.Event.{Event}
use Rattle.layout_core.specs.declared.event.Event.TheVariants.{Byte}
use Rattle.layout_core.specs.Events.{calls_in}
use Rattle.layout_core.specs.Played.{answer_to, answers_to, is_event}
use Rattle.layout_core.specs.World.{AfterEvent, HaveHeard}
use Rattle.layout_core.proofs.Played.{all_answered, all_played, event_at as event_of, heard_obeyed, next_heard, nothing_heard}
use Rattle.layout_core.proofs.Same.{same_then}
use Rattle.layout_core.proofs.world.World.run.Goals as goal

pub step-requires : goal.step-requires
step-requires c =
    let event = slice_index_or c.args.events.now c.loop-i.i (Byte 0 0) in
    subst (λ (lines : ℕ). IsTrue (is_event lines (length c.loop-i.self.nodes) event)) (sym c.loop-i.invariant.same.lines)
    (subst (λ (nodes : ℕ). IsTrue (is_event (length c.args.self.now.station.lines) nodes event)) (sym c.loop-i.invariant.same.count)
    (event_of _ _ c.args.events.now c.loop-i.i (Byte 0 0) c.loop-i-test.true c.requires.events))

abbrev event_at : goal.After-step → Event
event_at c = slice_index_or c.args.events.now c.loop-i.i (Byte 0 0)

abbrev later : goal.After-step → List Event
later c = drop (c.loop-i.i + 1) c.args.events.now

pub loop-i-preserved : goal.loop-i-preserved
loop-i-preserved c =
    let before : Seen = c.loop-i.self.station in
    let after : Seen = c.step.new.self.station in
    let more : drop c.loop-i.i c.args.events.now ≡ event_at c ∷ later c = drop_more c.args.events.now c.loop-i.i (Byte 0 0) c.loop-i-test.true in
    let turned : AfterEvent (event_at c) (answer_to before (event_at c)) c.loop-i.self.nodes c.step.new.self.nodes =
    subst (λ (step : Step). AfterEvent (event_at c) step c.loop-i.self.nodes c.step.new.self.nodes) c.step.ensures.answer c.step.ensures.nodes in
    record {
      rest = search rules;
      written =
          ap (λ (steps : List Step). steps ++ answers_to after (later c)) (take_more_set c.loop-i.steps c.loop-i.i c.step.result (omega (arith, c.loop-i-test.true, c.loop-i.invariant.same_length)))
          ∙ append_assoc (take c.loop-i.i c.loop-i.steps) (c.step.result ∷ []) (answers_to after (later c))
          ∙ ap (λ (step : Step). take c.loop-i.i c.loop-i.steps ++ step ∷ answers_to after (later c)) c.step.ensures.answer
          ∙ ap (λ (s : Seen). take c.loop-i.i c.loop-i.steps ++ answer_to before (event_at c) ∷ answers_to s (later c)) c.step.ensures.station
          ∙ subst (λ (events : List Event). take c.loop-i.i c.loop-i.steps ++ answers_to before events ≡ answers_to c.args.self.now.station c.args.events.now) more c.loop-i.invariant.written;
      same_length = search rules;
      same = same_then _ _ _ c.loop-i.invariant.same c.step.ensures.same;
      heard = λ new rest.
          c.loop-i.invariant.heard new
          (subst (λ (events : List Event). HaveHeard before events c.loop-i.self.nodes new) (sym more)
          (next_heard before (event_at c) (later c) c.loop-i.self.nodes c.step.new.self.nodes new turned
          (subst (λ (s : Seen). HaveHeard s (later c) c.step.new.self.nodes new) c.step.ensures.station rest)));
    }

pub returns-clause-nodes : goal.returns-clause-nodes
returns-clause-nodes c =
    let done : drop c.loop-i.i c.args.events.now ≡ [] = drop_of_length-le c.args.events.now c.loop-i-test.false in
    c.loop-i.invariant.heard c.loop-i.self.nodes
    (subst (λ (events : List Event). HaveHeard c.loop-i.self.station events c.loop-i.self.nodes c.loop-i.self.nodes) (sym done) (nothing_heard c.loop-i.self.station c.loop-i.self.nodes))

pub returns-clause-desks : goal.returns-clause-desks
returns-clause-desks c = c.stays_a_desk.ensures (known_of c.args.self.now.station) (calls_in c.args.events.now) c.always_legal.ensures.desk

pub returns-clause-headline : goal.returns-clause-headline
returns-clause-headline c =
    c.headline.ensures.headline c.args.self.now.station c.args.events.now c.args.self.now.nodes c.loop-i.self.nodes c.always_legal.ensures.desk (returns-clause-nodes c)

pub returns-clause-after_noise : goal.returns-clause-after_noise
returns-clause-after_noise c =
    c.headline.ensures.after_noise c.args.self.now.station c.args.events.now c.args.self.now.nodes c.loop-i.self.nodes c.always_legal.ensures.desk (returns-clause-nodes c)

pub returns-clause-obeyed : goal.returns-clause-obeyed
returns-clause-obeyed c = heard_obeyed c.args.self.now.station c.args.events.now c.args.self.now.nodes c.loop-i.self.nodes (returns-clause-nodes c)

pub returns-clause-station : goal.returns-clause-station
returns-clause-station c = all_played c.args.self.now.station c.loop-i.self.station c.args.events.now c.loop-i.i c.loop-i-test.false c.loop-i.invariant.rest

pub returns-clause-answers : goal.returns-clause-answers
returns-clause-answers c =
    all_answered c.args.self.now.station c.loop-i.self.station c.args.events.now c.loop-i.i c.loop-i-test.false c.loop-i.steps c.loop-i.invariant.same_length c.loop-i.invariant.written
