use Rattle.std.proofs.Common.{sym, ◌∙◌}
use Rattle.std.proofs.lemmas.List.{take_rest}
use Rattle.text.proofs.FirstWord.{blank_first}
use Rattle.text.proofs.words.from_word.Goals as goal

pub loop-rest-preserved : goal.loop-rest-preserved
loop-rest-preserved c =
    let rest = c.loop-rest.rest.now in
    rw (take_rest rest 1) (blank_first rest (sym c.begins_blank.ensures ∙ c.loop-rest-test.true) ∙ c.loop-rest.invariant)
