use Rattle.std.proofs.Common.{◌∙◌, Option, Some, option_map, String, Global, Bor, string_bytes, ap, sym}
use Rattle.railway_plan.proofs.Keys.{first_unknown}
use Rattle.railway_plan.proofs.locating.unknown_key.Goals as goal

abbrev key_now : Option (Bor (String Global)) → Option (String Global)
key_now = option_map (λ key. key.now)

pub returns-in_err-other_key : goal.returns-in_err-other_key
returns-in_err-other_key c =
    ap (option_map (λ key. key.now)) c.from_residual.ensures
    ∙ ap (option_map string_bytes) (sym (ap key_now c.in_err-other_key.was) ∙ c.other_key.ensures)
    ∙ first_unknown c.args.known.now c.args.table.now.entries

pub returns : goal.returns
returns c =
    ap Some c.as_str.ensures.value
    ∙ ap (option_map string_bytes) (sym (ap key_now c.in_ok-other_key.was) ∙ c.other_key.ensures)
    ∙ first_unknown c.args.known.now c.args.table.now.entries
