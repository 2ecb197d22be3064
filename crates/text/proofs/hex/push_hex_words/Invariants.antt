use Rattle.std.proofs.Common.{◌≡◌, ◌+◌, ◌*◌, ◌++◌, drop, length}
use Rattle.text.specs.Hex.{hex_words}
use Rattle.text.proofs.hex.push_hex_words.Given as goal

abbrev pub invariant-loop-byte : goal.invariant-loop-byte
invariant-loop-byte g l = record {
  text : g.T.PushAscii.bytes l.text ++ hex_words (drop l.byte-index l.bytes) ≡ g.T.PushAscii.bytes l.initial.text ++ hex_words l.bytes;
  len : length (g.T.PushAscii.bytes l.text) ≡ length (g.T.PushAscii.bytes l.initial.text) + 3 * l.byte-index;
}
