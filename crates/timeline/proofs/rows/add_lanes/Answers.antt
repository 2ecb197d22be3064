use Rattle.std.proofs.Common.{◌∙◌, sym, ap, ◌+◌, ◌∷◌, ◌++◌, drop, drop_of_length-le as drop_all, arith}
use Rattle.std.proofs.lemmas.List.{drop_more}
use Rattle.trace.specs.declared.reported_state.Seen.{Seen}
use Rattle.timeline.specs.Rows.{lane_rows}
use Rattle.timeline.proofs.Steps.{lanes_end, lanes_next}
use Rattle.timeline.proofs.rows.add_lanes.Goals as goal

pub loop-lane-preserved : goal.loop-lane-preserved
loop-lane-preserved c = record {
  rows = lanes_next c.args.events.now (drop c.loop-lane.lane-index c.args.lanes.now) c.lane-item.result (drop (c.loop-lane.lane-index + 1) c.args.lanes.now) c.loop-lane.rows.items c.add_rows.new.rows.items (c.args.rows.now.items ++ lane_rows c.args.events.now c.args.lanes.now)
      (drop_more c.args.lanes.now c.loop-lane.lane-index c.lane-item.result c.loop-lane-test.true ∙ ap (λ (i : Seen). i ∷ drop (c.loop-lane.lane-index + 1) c.args.lanes.now) (sym c.lane-item.is)) c.loop-lane.invariant.rows c.in_ok-add_rows.ensures.rows;
  few = omega (arith, c.loop-lane.invariant.few, c.in_ok-add_rows.ensures.few);
}

pub returns-clause-rows : goal.returns-clause-rows
returns-clause-rows c = lanes_end c.args.events.now (drop c.loop-lane.lane-index c.args.lanes.now) c.loop-lane.rows.items (c.args.rows.now.items ++ lane_rows c.args.events.now c.args.lanes.now) (drop_all c.args.lanes.now c.loop-lane-test.false) c.loop-lane.invariant.rows
