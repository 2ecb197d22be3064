use Rattle.std.proofs.Common.{[], length, ap, sym, refl, ◌∙◌, arith}
use Rattle.loconet_tcp.proofs.Words.{no_words, one_word}
use Rattle.loconet_tcp.proofs.parsing.next_word.Goals as goal

pub returns-in-Some-clause-words : goal.returns-in-Some-clause-words
returns-in-Some-clause-words c = c.in-Some.ensures.word ∙ one_word c.in-Some.word.now _ c.in-Some.ensures.some

pub returns-in-Some-clause-none : goal.returns-in-Some-clause-none
returns-in-Some-clause-none c = λ none. absurd (omega (arith, ap length none, c.in-Some.ensures.some))

pub returns-in-None-clause-words : goal.returns-in-None-clause-words
returns-in-None-clause-words c = c.in-None.ensures.word ∙ sym (no_words [] refl)

pub returns-in-None-clause-none : goal.returns-in-None-clause-none
returns-in-None-clause-none c = λ _. no_words [] refl
