use Rattle.std.proofs.Common.{◌<◌, ◌≤◌, ◌∙◌, length, arith, sym}
use Rattle.bus_log.specs.ChangeLines.{conflicts_in}
use Rattle.bus_log.proofs.EachLine.{each_more, each_none}
use Rattle.bus_log.proofs.railway_lines.print_conflicts.Goals as goal

pub loop-block-preserved : goal.loop-block-preserved
loop-block-preserved c =
    let below : c.loop-block.block < length c.args.change.now.blocks.now = omega (arith, c.loop-block-test.true) in
    each_more c.loop-block.log c.print_block_conflicts.new.log (conflicts_in c.args.change.now) c.loop-block.block (length c.args.change.now.blocks.now) below c.print_block_conflicts.ensures ∙ c.loop-block.invariant

pub returns : goal.returns
returns c =
    let over : length c.args.change.now.blocks.now ≤ c.loop-block.block = omega (arith, c.loop-block-test.false) in
    sym (each_none c.loop-block.log (conflicts_in c.args.change.now) c.loop-block.block (length c.args.change.now.blocks.now) over) ∙ c.loop-block.invariant
