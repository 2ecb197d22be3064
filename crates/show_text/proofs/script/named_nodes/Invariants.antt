use Rattle.std.proofs.Common.{◌≡◌}
use Rattle.text.specs.Words.{words_of}
use Rattle.show_text.specs.Script.{nodes_of, set_with}
use Rattle.show_text.proofs.script.named_nodes.Given as goal

abbrev pub invariant-loop-word : goal.invariant-loop-word
invariant-loop-word l = set_with l.named (nodes_of l.nodes (words_of l.word-iterator.0.now)) ≡ set_with 0 (nodes_of l.nodes (words_of l.initial.words.0.now))
