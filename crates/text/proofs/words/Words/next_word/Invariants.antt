use Rattle.std.proofs.Common.{◌≡◌, ◌≤◌, length}
use Rattle.text.specs.Words.{words_of}
use Rattle.text.proofs.words.Words.next_word.Given as goal

abbrev pub invariant-loop-piece : goal.invariant-loop-piece
invariant-loop-piece l = record {
  words : words_of l.self.0.now ≡ words_of l.initial.self.0.now;
  within : length l.self.0.now ≤ length l.initial.self.0.now;
}

abbrev pub decreases-loop-piece : goal.decreases-loop-piece
decreases-loop-piece l = length l.self.0.now
