use Rattle.std.proofs.Common.{◌++◌, ap, append_assoc, codes, rules, ◌∙◌}
use Rattle.describe.specs.Packets.{all_words, instruction_words}
use Rattle.describe.proofs.packets.push_all.Goals as goal

pub returns : goal.returns
unfolding all_words
returns c = record {
  text = c.push_instruction.ensures.text ∙ ap (λ text. text ++ instruction_words c.args.requested.now) c.push_text.ensures.text ∙ append_assoc _ (codes "all locomotives: ") _;
  len = search rules;
}
