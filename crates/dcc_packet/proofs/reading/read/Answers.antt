use Rattle.std.proofs.Common.{◌≡◌, true, sym, ◌∙◌}
use Rattle.dcc_packet.specs.Packet.{is_checked, is_packet}
use Rattle.dcc_packet.specs.Reading.{instruction_of}
use Rattle.dcc_packet.proofs.Spelling.{opens, exact}
use Rattle.dcc_packet.proofs.reading.read.Goals as goal

pub returns-then-is_checked-clause-exact : goal.returns-then-is_checked-clause-exact
returns-then-is_checked-clause-exact c =
    let packet : is_packet c.args.packet.now ≡ true = rw (← c.bytes.ensures.value) c.bytes.ensures.form in
    let checked : is_checked c.args.packet.now ≡ true = sym c.is_checked.ensures ∙ c.if-is_checked.true in
    let value : c.form.result ≡ instruction_of c.args.packet.now =
    rw (c.form.ensures, c.bytes.ensures.value) (sym (opens c.args.packet.now packet checked)) in
    exact c.args.packet.now c.form.result value
