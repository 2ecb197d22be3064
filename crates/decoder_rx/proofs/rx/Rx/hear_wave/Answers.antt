use Rattle.std.proofs.Common.{◌∙◌, sym}
use Rattle.decoder_rx.proofs.Noise.{leaves_two}
use Rattle.decoder_rx.proofs.rx.Rx.hear_wave.Goals as goal

pub returns-clause-wave : goal.returns-clause-wave
returns-clause-wave c packet halves heard form wave = c.hunt.ensures.position ∙ sym (leaves_two c.args.self.now packet halves (sym c.between.ensures ∙ c.if-not-between.false) form wave)
