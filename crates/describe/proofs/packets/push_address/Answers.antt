use Rattle.std.proofs.Common.{ap, append_assoc, codes, rules, ◌∙◌, ◌++◌}
use Rattle.describe.proofs.packets.push_address.Goals as goal

pub returns-in-Long : goal.returns-in-Long
returns-in-Long c = record {
  text = rw c.in-Long.is (c.push_text.ensures.text ∙ ap (λ text. text ++ codes " (long address)") c.push_field-in-Long.ensures.text ∙ append_assoc _ _ (codes " (long address)"));
  len = search rules;
}
