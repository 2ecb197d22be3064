use Rattle.std.proofs.Common.{◌+◌, ◌++◌, drop, drop_of_length-le as drop_all, arith}
use Rattle.std.proofs.lemmas.List.{drop_more}
use Rattle.timeline.specs.Rows.{rows_in}
use Rattle.timeline.proofs.Steps.{kinds_end, kinds_next}
use Rattle.timeline.proofs.rows.add_rows.Goals as goal

pub loop-kind-preserved : goal.loop-kind-preserved
loop-kind-preserved c = record {
  rows = kinds_next c.args.lane.now c.args.events.now (drop c.loop-kind.kind-index c.args.kinds.now) _ (drop (c.loop-kind.kind-index + 1) c.args.kinds.now) c.loop-kind.rows.items c.add_row.new.rows.items (c.args.rows.now.items ++ rows_in c.args.lane.now c.args.events.now c.args.kinds.now)
      (drop_more c.args.kinds.now c.loop-kind.kind-index _ c.loop-kind-test.true) c.loop-kind.invariant.rows c.in_ok-add_row.ensures.rows;
  few = omega (arith, c.loop-kind.invariant.few, c.in_ok-add_row.ensures.few);
}

pub returns-clause-rows : goal.returns-clause-rows
returns-clause-rows c = kinds_end c.args.lane.now c.args.events.now (drop c.loop-kind.kind-index c.args.kinds.now) c.loop-kind.rows.items (c.args.rows.now.items ++ rows_in c.args.lane.now c.args.events.now c.args.kinds.now) (drop_all c.args.kinds.now c.loop-kind-test.false) c.loop-kind.invariant.rows
