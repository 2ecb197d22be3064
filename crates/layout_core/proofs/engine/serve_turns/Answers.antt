use Rattle.std.proofs.Common.{◌∷◌, [], ◌-◌, replicate, sym}
use Rattle.std.proofs.lemmas.List.{replicate_more}
use Rattle.layout_core.specs.declared.event.Event.TheVariants.{Turn}
use Rattle.layout_core.proofs.Counting.{room_behind, turn_fits}
use Rattle.layout_core.proofs.ServeSteps.{all_turned, serves_none, serves_then}
use Rattle.layout_core.proofs.Stopping.{stopped, turn_parts}
use Rattle.layout_core.proofs.engine.serve_turns.Goals as goal

pub loop-turn-init : goal.loop-turn-init
loop-turn-init g c = record { serves = serves_none c.args.line _; sink_works = c.requires.sink_works; trace_works = c.requires.trace_works }

pub serve_event-requires-clause-room : goal.serve_event-requires-clause-room
serve_event-requires-clause-room g c =
    room_behind 1 c.args.turns _ _ c.args.counts.now c.loop-turn.counts _ _ _ _ _ _
    (turn_fits c.loop-turn._turn c.args.turns c.loop-turn-test.true) c.requires.room c.loop-turn.invariant.serves

pub returns-in_err-serve_event : goal.returns-in_err-serve_event
returns-in_err-serve_event g c =
    stopped c.from_residual.result c.in_err-serve_event.field-0.0 _ _ _ _ (replicate (c.args.turns - c.loop-turn._turn - 1) (Turn 0)) _ _ _ _ _ c.from_residual.ensures.1
    (turn_parts c.args.turns c.loop-turn._turn c.loop-turn-test.true) c.loop-turn.invariant.serves c.in_err-serve_event.ensures

pub loop-turn-preserved : goal.loop-turn-preserved
loop-turn-preserved g c =
    let done = c.in_ok-serve_event.ensures in
    record {
      serves = serves_then c.args.line _ (replicate c.loop-turn._turn (Turn 0)) (Turn 0 ∷ []) _ _ _ (sym (replicate_more c.loop-turn._turn (Turn 0))) c.loop-turn.invariant.serves done.0;
      sink_works = done.1;
      trace_works = done.2;
    }

pub returns : goal.returns
returns g c = (
  all_turned c.args.line c.loop-turn._turn c.args.turns c.loop-turn.auto._turn-end c.loop-turn-test.false _ _ c.loop-turn.invariant.serves,
  c.loop-turn.invariant.sink_works,
  c.loop-turn.invariant.trace_works,
)
