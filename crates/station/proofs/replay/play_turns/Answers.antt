use Rattle.std.proofs.Common.{◌≡◌, ◌∙◌, ◌+◌, refl, subst, arith, rules}
use Rattle.std.specs.Io.KnownBytes.{Appends}
use Rattle.layout_core.specs.declared.event.Event.TheVariants.{Turn}
use Rattle.layout_core.specs.Served.{line_of_answer}
use Rattle.station_core.specs.declared.call.Step.{Step}
use Rattle.station.proofs.Replaying.{done_one, turned_all, turned_more, turned_none}
use Rattle.station.proofs.replay.play_turns.Goals as goal

pub loop-turn-init : goal.loop-turn-init
loop-turn-init g c = record {
  turned = turned_none c.events_add_up.ensures.none c.args.missed c.args.first c.args.world.now (g.O.Sink.held c.args.output.now);
  same = record { lines = refl; specs = refl; count = refl };
  failed = refl;
  loan = refl;
}

pub loop-turn-preserved : goal.loop-turn-preserved
loop-turn-preserved g c = record {
  turned =
      turned_more c.events_add_up.ensures.more c.calls_are_moves.ensures.to_turn c.args.missed c.args.first c.loop-turn.turn c.args.world.now c.loop-turn.world c.step-answer.new.self
      (g.O.Sink.held c.args.output.now) (g.O.Sink.held c.loop-turn.output) (g.O.Sink.held c.print_answer.new.output)
      c.loop-turn.invariant.turned
      (done_one c.events_add_up.ensures.one (Turn c.args.missed) c.step-answer.result c.loop-turn.world c.step-answer.new.self c.step-answer.ensures.station c.step-answer.ensures.answer c.step-answer.ensures.nodes)
      (subst (λ (answer : Step). Appends (g.O.Sink.held c.loop-turn.output) (g.O.Sink.held c.print_answer.new.output) (line_of_answer 0 c.loop-turn.turn answer)) c.step-answer.ensures.answer c.in_ok-print_answer.ensures.printed);
  same = search rules;
  failed = ◌∙◌ {b = g.O.Sink.failed c.loop-turn.output} c.in_ok-print_answer.ensures.failed c.loop-turn.invariant.failed;
  loan = ◌∙◌ {b = g.O.Sink.loan c.loop-turn.output} c.print_answer.ensures.loan c.loop-turn.invariant.loan;
}

pub returns-clause-done : goal.returns-clause-done
returns-clause-done g c =
    let all : c.loop-turn.turn ≡ c.args.first + c.args.count = omega (arith, c.loop-turn-test.false) in
    (turned_all _ _ _ c.args.count _ _ _ _ c.loop-turn.invariant.turned all).0

pub returns-clause-printed : goal.returns-clause-printed
returns-clause-printed g c =
    let all : c.loop-turn.turn ≡ c.args.first + c.args.count = omega (arith, c.loop-turn-test.false) in
    (turned_all _ _ _ c.args.count _ _ _ _ c.loop-turn.invariant.turned all).1
