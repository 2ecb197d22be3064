use Rattle.half_bits.specs.Halves.{halves_of}
use Rattle.decoder_node.specs.Hearing.{Receives}
use Rattle.decoder_node.proofs.Decoders.{hears}
use Rattle.decoder_node.proofs.decoder.Decoder.hear_packet.Goals as goal

heard : (g : _) (c : goal.After-hear_wave g) → Receives g.Settings.Obeys.does c.args.self.now (halves_of c.args.packet.now) c.hear_wave.new.self
heard g c = hears g.Settings.Obeys.does (record { reads = c.complete.ensures.wave; skips = c.complete.ensures.wrong; settles = c.settles.ensures.between }) c.args.self.now c.hear_wave.new.self (halves_of c.args.packet.now) c.hear_wave.ensures

pub returns-clause-hears : goal.returns-clause-hears
returns-clause-hears g c = heard g c

pub returns-clause-settles : goal.returns-clause-settles
returns-clause-settles g c = (heard g c).waves.settles c.args.packet.now c.halves_are_a_wave.ensures.packet c.halves_are_a_wave.ensures.wave

pub returns-clause-obeys : goal.returns-clause-obeys
returns-clause-obeys g c = (heard g c).waves.obeys c.args.packet.now c.halves_are_a_wave.ensures.packet c.halves_are_a_wave.ensures.wave
