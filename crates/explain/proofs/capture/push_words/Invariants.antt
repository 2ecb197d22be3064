use Rattle.std.proofs.Common.{◌≡◌, ◌++◌, drop}
use Rattle.text.specs.Hex.{hex_words}
use Rattle.explain.proofs.capture.push_words.Given as goal

abbrev pub invariant-loop-byte : goal.invariant-loop-byte
invariant-loop-byte l = l.text.items ++ hex_words (drop l.byte-index l.bytes) ≡ l.fn.text.items ++ hex_words l.bytes
