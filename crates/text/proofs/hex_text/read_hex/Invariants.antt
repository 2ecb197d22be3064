use Rattle.std.proofs.Common.{◌≡◌, ◌-◌, ◌≤◌, length}
use Rattle.std.specs.List.{slice_split}
use Rattle.text.specs.Sequence.{before}
use Rattle.text.specs.HexText.{is_white_space, pieces_of}
use Rattle.text.proofs.hex_text.read_hex.Given as goal

abbrev pub invariant-loop-rest : goal.invariant-loop-rest
invariant-loop-rest l = record {
  within : length l.rest ≤ length l.text;
  read : before l.bytes.items (pieces_of (length l.text - length l.rest) (slice_split is_white_space l.rest)) ≡ pieces_of 0 (slice_split is_white_space l.text);
}

abbrev pub decreases-loop-rest : goal.decreases-loop-rest
decreases-loop-rest l = length l.rest
