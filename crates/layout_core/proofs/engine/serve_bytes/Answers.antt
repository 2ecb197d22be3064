use Rattle.std.proofs.Common.{[], ◌∷◌, ◌*◌, ◌+◌, ◌++◌, arith, drop, get_or, length, replicate, take}
use Rattle.layout_core.specs.declared.event.Event.TheVariants.{Byte, Turn}
use Rattle.layout_core.specs.Served.{served_events}
use Rattle.layout_core.proofs.Counting.{byte_fits, room_behind, turns_fit}
use Rattle.layout_core.proofs.ServeSteps.{all_served, byte_served, serves_more, serves_none}
use Rattle.layout_core.proofs.Stopping.{served_parts, stopped, turns_parts}
use Rattle.layout_core.proofs.engine.serve_bytes.Goals as goal

pub loop-byte-init : goal.loop-byte-init
loop-byte-init g c = record { serves = serves_none c.args.line _; sink_works = c.requires.sink_works; trace_works = c.requires.trace_works }

pub serve_event-requires-clause-room : goal.serve_event-requires-clause-room
serve_event-requires-clause-room g c =
    room_behind 1 (256 * length c.args.bytes.now) _ _ c.args.counts.now c.loop-byte.counts _ _ _ _ _ _
    (omega (arith, byte_fits c.args.line c.args.turns c.loop-byte.byte-index c.args.bytes.now c.ranges.turns.fits c.loop-byte-test.true)) c.requires.room c.loop-byte.invariant.serves

pub returns-in_err-serve_event : goal.returns-in_err-serve_event
returns-in_err-serve_event g c =
    stopped c.from_residual.result c.in_err-serve_event.field-0.0 _ _ _ _ (replicate c.args.turns (Turn 0) ++ served_events c.args.line c.args.turns (drop (c.loop-byte.byte-index + 1) c.args.bytes.now)) _ _ _ _ _ c.from_residual.ensures.1
    (served_parts c.args.line c.args.turns c.loop-byte.byte-index c.args.bytes.now c.loop-byte-test.true) c.loop-byte.invariant.serves c.in_err-serve_event.ensures

pub serve_turns-requires-clause-sink_works : goal.serve_turns-requires-clause-sink_works
serve_turns-requires-clause-sink_works g c = c.in_ok-serve_event.ensures.1

pub serve_turns-requires-clause-trace_works : goal.serve_turns-requires-clause-trace_works
serve_turns-requires-clause-trace_works g c = c.in_ok-serve_event.ensures.2

pub serve_turns-requires-clause-room : goal.serve_turns-requires-clause-room
serve_turns-requires-clause-room g c =
    room_behind c.args.turns (256 * length c.args.bytes.now) _ _ c.args.counts.now _ _ _ _ _ _ _
    (turns_fit c.args.line c.args.turns c.loop-byte.byte-index (get_or c.args.bytes.now c.loop-byte.byte-index 0) c.args.bytes.now c.ranges.turns.fits c.loop-byte-test.true) c.requires.room
    (serves_more c.args.line (served_events c.args.line c.args.turns (take c.loop-byte.byte-index c.args.bytes.now)) (Byte c.args.line (get_or c.args.bytes.now c.loop-byte.byte-index 0) ∷ []) _ _ _ c.loop-byte.invariant.serves c.in_ok-serve_event.ensures.0)

pub returns-in_err-serve_turns : goal.returns-in_err-serve_turns
returns-in_err-serve_turns g c =
    stopped c.from_residual-in_err-serve_turns.result c.in_err-serve_turns.field-0.0 _ _ _ _ _ _ _ _ _ _ c.from_residual-in_err-serve_turns.ensures.1
    (turns_parts c.args.line c.args.turns c.loop-byte.byte-index c.args.bytes.now c.loop-byte-test.true)
    (serves_more c.args.line (served_events c.args.line c.args.turns (take c.loop-byte.byte-index c.args.bytes.now)) (Byte c.args.line (get_or c.args.bytes.now c.loop-byte.byte-index 0) ∷ []) _ _ _ c.loop-byte.invariant.serves c.in_ok-serve_event.ensures.0)
    c.in_err-serve_turns.ensures

pub loop-byte-preserved : goal.loop-byte-preserved
loop-byte-preserved g c =
    let turned = c.in_ok-serve_turns.ensures in
    record {
      serves = byte_served c.args.line c.args.turns c.loop-byte.byte-index c.args.bytes.now c.loop-byte-test.true _ _ _ _ c.loop-byte.invariant.serves c.in_ok-serve_event.ensures.0 turned.0;
      sink_works = turned.1;
      trace_works = turned.2;
    }

pub returns : goal.returns
returns g c = (
  all_served c.args.line c.args.turns c.loop-byte.byte-index c.args.bytes.now c.loop-byte-test.false _ _ c.loop-byte.invariant.serves,
  c.loop-byte.invariant.sink_works,
  c.loop-byte.invariant.trace_works,
)
