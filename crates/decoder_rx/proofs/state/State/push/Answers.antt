use Rattle.std.proofs.Common.{◌&&◌, ◌*◌, ◌+◌, ◌-◌, subst, sym}
use Rattle.std.specs.Prelude.{IsTrue}
use Rattle.decoder_rx.specs.declared.state.Phase.{Phase}
use Rattle.decoder_rx.specs.declared.state.State.{State}
use Rattle.decoder_rx.specs.State.{may_be_left, position_in}
use Rattle.decoder_rx.specs.Table.{is_possible}
use Rattle.decoder_rx.proofs.Bits.{one_bit_more}
use Rattle.decoder_rx.proofs.state.State.push.Goals as goal

abbrev SoundIn : State → Phase → Type 0
SoundIn state phase = IsTrue (may_be_left phase state.left && is_possible (position_in phase state))

pub returns-else-self-eq0-clause-sound : goal.returns-else-self-eq0-clause-sound
returns-else-self-eq0-clause-sound c =
    let now = c.args.self.now in
    let bit = c.args.bit in
    let next : State = record { phase = now.phase; ones = now.ones; byte = 2 * now.byte + bit; left = now.left - 1; bytes = now.bytes } in
    let fits = one_bit_more now.bytes.items now.byte now.left bit c.requires.bit c.if-self-eq0.false (subst (SoundIn now) c.requires.phase c.requires.sound) in
    subst (SoundIn next) (sym c.requires.phase) fits
