use Rattle.std.proofs.Common.{sym, ◌∙◌}
use Rattle.std.proofs.lemmas.List.{take_rest}
use Rattle.text.proofs.FirstWord.{ends_at_blank}
use Rattle.text.proofs.words.behind_blank.Goals as goal

pub returns-in-len1-up : goal.returns-in-len1-up
returns-in-len1-up c =
    let text = c.args.text.now in
    rw (take_rest text 1) (ends_at_blank text c.in-len1-up.len_at_least (sym c.is_blank.ensures ∙ c.if-is_blank.true))
