use Rattle.std.proofs.Common.{◌≡◌, ◌≤◌, ◌+◌, ◌++◌, drop, length}
use Rattle.arrayvec.specs.ArrayVec.{array_vec_len}
use Rattle.describe.specs.Rows.{choice_text, longest}
use Rattle.describe.proofs.rows.push_choice.Given as goal

abbrev pub invariant-loop-byte : goal.invariant-loop-byte
invariant-loop-byte l = record {
  text : l.words.items ++ choice_text (drop l.byte-index l.texts) l.before ≡ l.initial.words.items ++ choice_text l.texts l.initial.before;
  len : array_vec_len l.words + length (choice_text (drop l.byte-index l.texts) l.before) ≤ array_vec_len l.initial.words + longest l.texts;
}
