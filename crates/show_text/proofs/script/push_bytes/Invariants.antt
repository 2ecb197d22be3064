use Rattle.std.proofs.Common.{◌≡◌, length}
use Rattle.text.specs.Words.{words_of}
use Rattle.text.specs.Sequence.{before}
use Rattle.show_text.specs.Script.{bytes_of}
use Rattle.show_text.proofs.script.push_bytes.Given as goal

abbrev pub invariant-loop-byte : goal.invariant-loop-byte
invariant-loop-byte l = before l.commands.items (bytes_of l.line (words_of l.words.0.now)) ≡ before l.initial.commands.items (bytes_of l.line (words_of l.initial.words.0.now))

abbrev pub decreases-loop-byte : goal.decreases-loop-byte
decreases-loop-byte l = length (words_of l.words.0.now)
