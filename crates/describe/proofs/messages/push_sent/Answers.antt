use Rattle.std.proofs.Common.{◌++◌, ap, append_assoc, codes, ◌∙◌}
use Rattle.dcc_packet.specs.Form.{with_check}
use Rattle.describe.specs.Packets.{packet_words}
use Rattle.describe.specs.Messages.{sent_words}
use Rattle.describe.proofs.messages.push_sent.Goals as goal

pub returns : goal.returns
unfolding sent_words
returns c =
    c.push_packet.ensures.text ∙ ap (λ bytes. c.push_text.new.words.items ++ packet_words bytes) (c.as_slice.ensures.value ∙ c.checked-packet.ensures)
    ∙ ap (λ text. text ++ packet_words (with_check c.args.body.now)) c.push_text.ensures.text ∙ append_assoc _ (codes "send to the track: ") _
