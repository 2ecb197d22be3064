use Rattle.std.proofs.Common.{◌≡◌, ◌<◌, ◌≤◌, IfOk, None, length, sym, subst, arith}
use Rattle.std.proofs.lemmas.Bool.{cond-false, cond-true, false_from_ne_true}
use Rattle.std.proofs.lemmas.Str.{IsUtf8-from_is_utf8, is_utf8-from_IsUtf8}
use Rattle.toml.specs.Parse.{parse_document}
use Rattle.roster.specs.Details.{AreDetails}
use Rattle.roster.specs.Toml.{table_in}
use Rattle.roster.proofs.locating.fault_details.Goals as goal

pub returns-in-Ok : goal.returns-in-Ok
returns-in-Ok c =
    let text = c.args.text.now in
    let whole : table_in text ≡ parse_document text = cond-true _ _ None (is_utf8-from_IsUtf8 _ c.in-Ok.ensures.cases.1) in
    subst (λ table. IfOk c.details_in.result (AreDetails text table c.args.node)) (sym whole) (rw c.in-Ok.ensures.cases.0 at c.details_in.ensures)

pub returns-in-Err : goal.returns-in-Err
returns-in-Err c =
    let text = c.args.text.now in
    let none : table_in text ≡ None = cond-false _ _ None (false_from_ne_true _ (λ e. c.in-Err.ensures.cases.0 (IsUtf8-from_is_utf8 _ e))) in
    let short : c.valid_up_to.result < length text = rw c.valid_up_to.ensures c.in-Err.ensures.cases.1.short in
    let within : c.valid_up_to.result ≤ length text = omega (arith, short) in
    subst (λ table. AreDetails text table c.args.node c.details_at.result) (sym none) (c.valid_up_to.result, within, c.details_at.ensures)
