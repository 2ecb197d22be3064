use Rattle.std.proofs.Common.{List, ap, length, sym}
use Rattle.roster.specs.Entry.{Entry}
use Rattle.roster.specs.Decoders.{entries_of}
use Rattle.bus_log.specs.LogQueues.{after_lines}
use Rattle.bus_log.specs.RailwayLines.{block_lines, conflict_lines, derailed_lines, lines_of_each}
use Rattle.bus_log.proofs.EachLine.{lines_in_order}
use Rattle.bus_log.proofs.Staying.{no_lines}
use Rattle.bus_log.proofs.railway_lines.print_moved.Goals as goal

pub returns-then-all_stay : goal.returns-then-all_stay
returns-then-all_stay c =
    sym (ap (after_lines c.args.log.now) (no_lines (entries_of c.args.change.now.roster) c.args.change.now.blocks.now c.args.change.now.before.now c.args.change.now.after.now (c.all_stay.ensures c.if-all_stay.true)))

pub returns : goal.returns
returns c =
    let entries : List Entry = entries_of c.args.change.now.roster in
    let blocks = c.args.change.now.blocks.now in
    let before = c.args.change.now.before.now in
    let after = c.args.change.now.after.now in
    lines_in_order c.args.log.now c.print_blocks.new.log c.print_derailed.new.log c.print_conflicts.new.log
    (lines_of_each 0 (length blocks) (block_lines entries blocks before after)) (lines_of_each 0 (length after) (derailed_lines entries before after)) (lines_of_each 0 (length blocks) (conflict_lines entries blocks before after))
    c.print_blocks.ensures c.print_derailed.ensures c.print_conflicts.ensures
