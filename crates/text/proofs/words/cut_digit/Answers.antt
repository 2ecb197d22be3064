use Rattle.std.proofs.Common.{sym, ◌∙◌, take, drop, length, ◌-◌}
use Rattle.std.proofs.lemmas.List.{take_rest}
use Rattle.text.proofs.FirstWord.{digit_first}
use Rattle.text.proofs.words.cut_digit.Goals as goal

pub returns : goal.returns
returns c =
    let text = c.args.text.now in
    let behind = take (length text - 1) (drop 1 text) in
    digit_first text behind c.in_ok-behind_blank.field-0.now c.from.result c.in-len1-up.len_at_least (take_rest text 1) (sym c.is_ascii_digit.ensures.value ∙ c.if-not-is_ascii_digit.false) c.from.ensures c.in_ok-behind_blank.ensures
