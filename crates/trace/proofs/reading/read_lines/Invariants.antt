use Rattle.std.proofs.Common.{◌+◌, ◌≤◌, length, vec_len}
use Rattle.std.specs.Str.Lines.{lines}
use Rattle.trace.proofs.Parsing.{HasParsed}
use Rattle.trace.proofs.reading.read_lines.Given as goal

abbrev pub invariant-loop-rest : goal.invariant-loop-rest
invariant-loop-rest g l = record {
  item : HasParsed g.D.Drawing.parses (lines l.text) (lines l.rest) l.number l.things.items;
  within : l.number + length l.rest ≤ length l.text;
  few : vec_len l.things ≤ l.number;
}

abbrev pub decreases-loop-rest : goal.decreases-loop-rest
decreases-loop-rest g l = length l.rest
