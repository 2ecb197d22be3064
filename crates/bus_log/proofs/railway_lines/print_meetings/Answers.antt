use Rattle.std.proofs.Common.{◌<◌, ◌≤◌, ◌∙◌, ℕ, List, ap, length, arith, sym}
use Rattle.roster.specs.Decoders.{entries_of}
use Rattle.bus_log.specs.LogQueues.{after_lines}
use Rattle.bus_log.specs.ChangeLines.{pair_in}
use Rattle.bus_log.proofs.EachLine.{each_more, each_none}
use Rattle.bus_log.proofs.Staying.{no_meeting_outside}
use Rattle.bus_log.proofs.railway_lines.print_meetings.Goals as goal

pub returns-then-not-is_in : goal.returns-then-not-is_in
returns-then-not-is_in c =
    let outside = sym c.is_in.ensures ∙ c.if-not-is_in.true in
    sym (ap (after_lines c.args.log.now) (no_meeting_outside (entries_of c.args.change.now.roster) c.args.change.now.blocks.now c.args.change.now.before.now c.args.change.now.after.now c.args.block c.args.first outside))

pub loop-second-preserved : goal.loop-second-preserved
loop-second-preserved c =
    let below : c.loop-second.second < length c.args.change.now.after.now = omega (arith, c.loop-second-test.true) in
    let lines : ℕ → List (List ℕ) = λ second. pair_in c.args.change.now (record { block = c.args.block; first = c.args.first; second = second }) in
    each_more c.loop-second.log c.print_pair.new.log lines c.loop-second.second (length c.args.change.now.after.now) below c.print_pair.ensures ∙ c.loop-second.invariant

pub returns : goal.returns
returns c =
    let over : length c.args.change.now.after.now ≤ c.loop-second.second = omega (arith, c.loop-second-test.false) in
    let lines : ℕ → List (List ℕ) = λ second. pair_in c.args.change.now (record { block = c.args.block; first = c.args.first; second = second }) in
    sym (each_none c.loop-second.log lines c.loop-second.second (length c.args.change.now.after.now) over) ∙ c.loop-second.invariant
