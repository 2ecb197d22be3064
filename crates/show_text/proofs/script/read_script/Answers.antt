use Rattle.std.proofs.Common.{◌≡◌, ◌≢◌, ◌+◌, ap, arith, length, ◌∙◌}
use Rattle.std.specs.Str.Lines.{lines}
use Rattle.show_text.specs.declared.command.ScriptFault.{ScriptFault}
use Rattle.show_text.specs.declared.command.ScriptFaultKind.TheVariants.{NoMemory}
use Rattle.show_text.proofs.OnLines.{on_lines, are_counted}
use Rattle.text.specs.declared.lines.Lines.{Lines}
use Rattle.show_text.proofs.Reading.{counts_on, few_counted, line_goes_on, line_stops, reads_all, no_more, script_too_long, script_within}
use Rattle.show_text.proofs.script.read_script.Goals as goal

pub returns-in-Err-clause-fault : goal.returns-in-Err-clause-fault
returns-in-Err-clause-fault c known =
    let fault = c.fault_at-in-Err.ensures in
    let not_memory : c.in-Err.why ≢ NoMemory = λ e. known (ap (λ (f : ScriptFault). f.why) (fault.memory e)) in
    let within = script_within c.args.lines c.args.nodes c.args.text.now c.if-text-gt-LONGEST_TEXT.false in
    rw (fault.known not_memory) (within ∙ line_stops c.args.lines c.args.nodes (c.loop-line.number + 1) c.loop-line.commands.items c.in-Some.line.now (lines c.next.new.self.0.now) _ _ _ c.in-Some.ensures.steps (c.in-Err.ensures not_memory) c.loop-line.invariant.read)

pub returns-clause-commands : goal.returns-clause-commands
returns-clause-commands c =
    script_within c.args.lines c.args.nodes c.args.text.now c.if-text-gt-LONGEST_TEXT.false ∙ no_more c.args.lines c.args.nodes (c.loop-line.number + 1) c.loop-line.commands.items _ _ c.in-None.ensures.steps.0 c.loop-line.invariant.read

pub returns-clause-lines : goal.returns-clause-lines
returns-clause-lines c = on_lines c.args.lines c.args.nodes c.args.text.now c.loop-line.commands.items (returns-clause-commands c)

pub returns-clause-counts : goal.returns-clause-counts
returns-clause-counts c = are_counted c.args.lines c.args.nodes c.args.text.now c.loop-line.commands.items (returns-clause-commands c)

pub returns-then-text-gt-LONGEST_TEXT-clause-fault : goal.returns-then-text-gt-LONGEST_TEXT-clause-fault
returns-then-text-gt-LONGEST_TEXT-clause-fault c known = script_too_long c.args.lines c.args.nodes c.args.text.now c.fault_at.result c.if-text-gt-LONGEST_TEXT.true c.fault_at.ensures.known

pub loop-line-init : goal.loop-line-init
loop-line-init c =
    let all : lines c.into_iter-line-iterator.result.0.now ≡ lines c.args.text.now = ap (λ (l : Lines). lines l.0.now) c.into_iter-line-iterator.ensures.into_iter_gives in
    record { counted = omega (arith, ap length all); read = reads_all c.args.lines c.args.nodes c.new-commands.result.items _ _ c.new-commands.ensures.items all }

pub overflow_add-number : goal.overflow_add-number
overflow_add-number c = few_counted c.loop-line.number c.args.text.now (lines c.loop-line.line-iterator.0.now) c.if-text-gt-LONGEST_TEXT.false c.loop-line.invariant.counted

pub loop-line-smaller : goal.loop-line-smaller
loop-line-smaller c = omega (arith, ap length c.in-Some.ensures.steps)

pub loop-line-preserved : goal.loop-line-preserved
loop-line-preserved c =
    let step = c.in-Some.ensures.steps in
    record {
      counted = counts_on c.loop-line.number _ c.in-Some.line.now _ (lines c.next.new.self.0.now) step c.loop-line.invariant.counted;
      read = line_goes_on c.args.lines c.args.nodes (c.loop-line.number + 1) c.loop-line.commands.items c.push_line_commands.new.commands.items c.in-Some.line.now (lines c.next.new.self.0.now) _ _ step c.in_default.ensures c.loop-line.invariant.read;
    }
