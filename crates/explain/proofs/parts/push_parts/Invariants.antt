use Rattle.std.proofs.Common.{◌≡◌, ◌≤◌, ◌++◌, length}
use Rattle.explain.specs.Parts.{parts_note, parts_of}
use Rattle.explain.proofs.parts.push_parts.Given as goal

abbrev pub invariant-loop-rest : goal.invariant-loop-rest
invariant-loop-rest l = record {
  whole : l.text.items ++ parts_note (parts_of l.rest) ≡ l.fn.text.items ++ parts_note (parts_of l.bytes);
  within : length l.rest ≤ 200;
}

abbrev pub decreases-loop-rest : goal.decreases-loop-rest
decreases-loop-rest l = length l.rest
