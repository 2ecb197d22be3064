use Rattle.half_bits.specs.Halves.{halves_of}
use Rattle.decoder_node.proofs.Decoders.{heard_in_turn}
use Rattle.decoder_node.proofs.decoder.Decoder.hear_halves.Goals as goal

pub returns : goal.returns
returns g c = heard_in_turn g.Settings.Obeys.does c.args.self.now c.hear_all.new.self (halves_of c.args.packet.now) c.halves.result c.hear_all.ensures.0 c.halves.ensures.items c.hear_all.ensures.1 c.hear_all.ensures.2.in_turn
