use Rattle.std.proofs.Common.{◌≡◌, ◌+◌, ◌*◌, ◌≤◌, ◌++◌, length}
use Rattle.text.specs.Words.{words_of}
use Rattle.loconet_tcp.specs.Requests.{leading_bytes, are_pairs}
use Rattle.loconet_tcp.proofs.parsing.read_pairs.Given as goal

-- the bytes so far, followed by the leading bytes of the other words, are the leading bytes of all
abbrev pub invariant-loop-word : goal.invariant-loop-word
invariant-loop-word l = record {
  led : l.bytes.items ++ leading_bytes (words_of l.words.0.now) ≡ leading_bytes (words_of l.text);
  are : are_pairs (words_of l.words.0.now) ≡ are_pairs (words_of l.text);
  room : 2 * length l.bytes.items + length l.words.0.now ≤ length l.text;
}

abbrev pub decreases-loop-word : goal.decreases-loop-word
decreases-loop-word l = length (words_of l.words.0.now)
