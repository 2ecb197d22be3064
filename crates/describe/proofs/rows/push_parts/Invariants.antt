use Rattle.std.proofs.Common.{◌≡◌, ◌≤◌, ◌+◌, ◌++◌, drop}
use Rattle.arrayvec.specs.ArrayVec.{array_vec_len}
use Rattle.describe.specs.Rows.{most_of, parts_text, phrases_of}
use Rattle.describe.proofs.rows.push_parts.Given as goal

abbrev pub invariant-loop-part : goal.invariant-loop-part
invariant-loop-part l = record {
  text : l.words.items ++ parts_text l.bytes (phrases_of (drop l.part-index l.parts)) ≡ l.initial.words.items ++ parts_text l.bytes (phrases_of l.parts);
  len : array_vec_len l.words + most_of (phrases_of (drop l.part-index l.parts)) ≤ array_vec_len l.initial.words + most_of (phrases_of l.parts);
}
