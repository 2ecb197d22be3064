use Rattle.std.proofs.Common.{◌<◌, ◌≤◌, ◌∙◌, length, arith, rules, sym}
use Rattle.bus_log.specs.ChangeLines.{train_changes}
use Rattle.bus_log.proofs.EachLine.{each_more, each_none}
use Rattle.bus_log.proofs.railway_lines.print_derailed.Goals as goal
use Rattle.bus_log.proofs.railway_lines.print_derailed.Goals.{in-None-Some, in-None+in-None-places-2, in-Some-1}

pub loop-i-preserved : goal.loop-i-preserved
loop-i-preserved c =
    let below : c.loop-i.i < length c.args.change.now.after.now = omega (arith, c.loop-i-test.true) in
    each_more c.loop-i.log _ (train_changes c.args.change.now) c.loop-i.i (length c.args.change.now.after.now) below (elim c.match-places.branch [
      | in-None-Some w ↦ search rules
      | in-None+in-None-places-2 w ↦ search rules
      | in-Some-1 w ↦ search rules
    ]) ∙ c.loop-i.invariant

pub returns : goal.returns
returns c =
    let over : length c.args.change.now.after.now ≤ c.loop-i.i = omega (arith, c.loop-i-test.false) in
    sym (each_none c.loop-i.log (train_changes c.args.change.now) c.loop-i.i (length c.args.change.now.after.now) over) ∙ c.loop-i.invariant
