use Rattle.std.proofs.Common.{◌<◌, ◌≤◌, ◌∙◌, length, arith, sym}
use Rattle.bus_log.specs.ChangeLines.{meetings_in}
use Rattle.bus_log.proofs.EachLine.{each_more, each_none}
use Rattle.bus_log.proofs.railway_lines.print_block_conflicts.Goals as goal

pub loop-first-preserved : goal.loop-first-preserved
loop-first-preserved c =
    let below : c.loop-first.first < length c.args.change.now.after.now = omega (arith, c.loop-first-test.true) in
    each_more c.loop-first.log c.print_meetings.new.log (meetings_in c.args.change.now c.args.block) c.loop-first.first (length c.args.change.now.after.now) below c.print_meetings.ensures ∙ c.loop-first.invariant

pub returns : goal.returns
returns c =
    let over : length c.args.change.now.after.now ≤ c.loop-first.first = omega (arith, c.loop-first-test.false) in
    sym (each_none c.loop-first.log (meetings_in c.args.change.now c.args.block) c.loop-first.first (length c.args.change.now.after.now) over) ∙ c.loop-first.invariant
