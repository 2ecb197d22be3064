use Rattle.std.proofs.Common.{sym, ◌∙◌, take, drop, length, ◌-◌}
use Rattle.std.proofs.lemmas.List.{take_rest}
use Rattle.text.proofs.FirstWord.{byte_first}
use Rattle.text.proofs.words.cut_byte.Goals as goal

pub returns : goal.returns
returns c =
    let text = c.args.text.now in
    let behind = take (length text - 2) (drop 2 text) in
    byte_first text behind c.in_ok-behind_blank.field-0.now c.in_ok-byte.byte c.in-len2-up.len_at_least (take_rest text 2) (sym c.read_hex_digits.ensures ∙ c.in_ok-byte.was) c.in_ok-behind_blank.ensures
