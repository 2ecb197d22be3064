use Rattle.std.proofs.Common.{refl, ap, sym, ◌∙◌}
use Rattle.half_bits.specs.Halves.{halves_of}
use Rattle.decoder_rx.specs.Position.{Position}
use Rattle.decoder_node.specs.Hearing.{heard_all}
use Rattle.decoder_node.specs.Heard.{after_receipt}
use Rattle.decoder_node.proofs.Decoders.{heard_at_once}
use Rattle.decoder_node.proofs.decoder.Decoder.hear_wave.Goals as goal

pub returns-then-not-hear_wave : goal.returns-then-not-hear_wave
returns-then-not-hear_wave g c =
    let does = g.Settings.Obeys.does in
    let inside = c.self.inside in
    let halves = halves_of c.args.packet.now in
    c.hear_halves.ensures
    ∙ ap (λ (p : Position). heard_all does (record { settings = inside.settings; state = inside.state; receiver = p }) halves) c.if-not-hear_wave.ensures.position
    ∙ ap (λ d. heard_all does d halves) c.self.view_is

pub returns : goal.returns
returns g c =
    let does = g.Settings.Obeys.does in
    let inside = c.self.inside in
    let packet = c.args.packet.now in
    let halves = halves_of packet in
    let form = c.halves_are_a_wave.ensures.packet in
    let wave = c.halves_are_a_wave.ensures.wave in
    heard_at_once does (record { reads = c.complete.ensures.wave; skips = c.complete.ensures.wrong; settles = c.settles.ensures.between })
    (record { settings = inside.settings; state = inside.state; receiver = inside.rx })
    (record { settings = inside.settings; state = c.obey.new.state; receiver = c.hear_wave.new.self }) packet halves form wave
    (sym c.hear_wave.ensures.heard ∙ c.if-not-hear_wave.false) refl
    (c.obey.ensures.obeys ∙ ap (after_receipt (does inside.settings) inside.state) c.requires.read)
    (c.if-not-hear_wave.ensures.wave packet halves refl form wave)
    ∙ ap (λ d. heard_all does d halves) c.self.view_is
