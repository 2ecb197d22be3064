use Rattle.std.proofs.Common.{◌≡◌, take, drop, length, true, false, sym, ap, ◌∙◌}
use Rattle.std.specs.Str.{bytes_eq}
use Rattle.text.proofs.FirstWord.{no_prefix, behind_name}
use Rattle.text.proofs.words.behind_word.Goals as goal

pub returns-in_err-strip_prefix : goal.returns-in_err-strip_prefix
returns-in_err-strip_prefix c =
    let name = c.args.name.now in
    let text = c.args.text.now in
    let other : bytes_eq (take (length name) text) name ≡ false = ap (λ n. bytes_eq (take (length n) text) n) (sym c.as_bytes.ensures.value) ∙ c.in_err-strip_prefix.ensures.cases in
    rw c.from_residual.ensures (no_prefix name text c.requires.name c.requires.first other)

pub returns : goal.returns
returns c =
    let name = c.args.name.now in
    let text = c.args.text.now in
    let stripped = c.in_ok-strip_prefix.field-0.now in
    let first : bytes_eq (take (length name) text) name ≡ true = ap (λ n. bytes_eq (take (length n) text) n) (sym c.as_bytes.ensures.value) ∙ c.in_ok-strip_prefix.ensures.cases.0 in
    let behind : stripped ≡ drop (length name) text = c.in_ok-strip_prefix.ensures.cases.1 ∙ ap (λ n. drop (length n) text) c.as_bytes.ensures.value in
    behind_name (λ rest. rest.now) name text stripped c.behind_blank.result c.requires.name c.requires.first first behind c.behind_blank.ensures
