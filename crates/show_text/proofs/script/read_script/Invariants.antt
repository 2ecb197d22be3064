use Rattle.std.proofs.Common.{◌≡◌, ◌+◌, length}
use Rattle.std.specs.Str.Lines.{lines}
use Rattle.text.specs.Sequence.{before}
use Rattle.show_text.specs.Script.{commands_of}
use Rattle.show_text.proofs.script.read_script.Given as goal

abbrev pub invariant-loop-line : goal.invariant-loop-line
invariant-loop-line l = record {
  counted : l.number + length (lines l.line-iterator.0.now) ≡ length (lines l.text);
  read : before l.commands.items (commands_of l.lines l.nodes (l.number + 1) (lines l.line-iterator.0.now)) ≡ commands_of l.lines l.nodes 1 (lines l.text);
}
