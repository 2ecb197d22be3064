use Rattle.std.proofs.Common.{◌<◌, ◌≤◌, ◌∙◌, length, arith, rules, sym}
use Rattle.bus_log.specs.ChangeLines.{block_changes}
use Rattle.bus_log.proofs.EachLine.{each_more, each_none}
use Rattle.bus_log.proofs.railway_lines.print_blocks.Goals as goal
use Rattle.bus_log.proofs.railway_lines.print_blocks.Goals.{in-None-Some, in-None+in-None-first_in-2, in-Some-None, in-Some+in-Some-this}

pub loop-i-preserved : goal.loop-i-preserved
loop-i-preserved c =
    let below : c.loop-i.i < length c.args.change.now.blocks.now = omega (arith, c.loop-i-test.true) in
    each_more c.loop-i.log _ (block_changes c.args.change.now) c.loop-i.i (length c.args.change.now.blocks.now) below (elim c.match-first_in.branch [
      | in-None-Some w ↦ search rules
      | in-None+in-None-first_in-2 w ↦ search rules
      | in-Some-None w ↦ search rules
      | in-Some+in-Some-this w ↦ search rules
    ]) ∙ c.loop-i.invariant

pub returns : goal.returns
returns c =
    let over : length c.args.change.now.blocks.now ≤ c.loop-i.i = omega (arith, c.loop-i-test.false) in
    sym (each_none c.loop-i.log (block_changes c.args.change.now) c.loop-i.i (length c.args.change.now.blocks.now) over) ∙ c.loop-i.invariant
