use Rattle.std.proofs.Common.{rules, ◌≡◌, ◌∙◌, Some, None, Ok, true, false, ap, sym}
use Rattle.dcc_packet.specs.Packet.{is_checked}
use Rattle.show_text.specs.Lines.{track_text}
use Rattle.trace.proofs.Turns.{IsCut, IsTurn, is_cut, is_other, is_turn, same_turn, tells_nothing, tells_off, tells_packet}
use Rattle.trace.proofs.line.turn_of.Goals as goal
use Rattle.trace.proofs.line.turn_of.Goals.{then-not-is_checked-via-then-not-is_checked, then-not-is_checked-via-else-not-is_checked+then-not-is_text}

pub returns-in_default-clause-exact : goal.returns-in_default-clause-exact
returns-in_default-clause-exact c = λ turn is.
    let read : IsTurn c.args.line.now turn.number turn.packet = is_turn c.args.line.now turn.number turn.packet is.1 in
    absurd (c.in_default.ensures turn.number read.rest is.0 read.line_is)

pub returns-then-is_text-clause-exact : goal.returns-then-is_text-clause-exact
returns-then-is_text-clause-exact c = λ turn is.
    let cut : IsCut c.args.line.now turn.number turn.packet c.in-Some.number c.in-Some.rest.now = is_cut c.args.line.now turn.number turn.packet c.in-Some.number c.in-Some.rest.now is.0 is.1 c.in-Some.ensures in
    ap Ok (same_turn c.in-Some.number None turn cut.same (tells_off c.args.line.now turn.number turn.packet c.in-Some.number c.in-Some.rest.now cut (c.is_text.ensures.0 c.if-is_text.true ∙ c.off_line.ensures)))

pub returns-in_default-packet_of-clause-exact : goal.returns-in_default-packet_of-clause-exact
returns-in_default-packet_of-clause-exact c = λ turn is.
    let cut : IsCut c.args.line.now turn.number turn.packet c.in-Some.number c.in-Some.rest.now = is_cut c.args.line.now turn.number turn.packet c.in-Some.number c.in-Some.rest.now is.0 is.1 c.in-Some.ensures in
    absurd (tells_nothing c.args.line.now turn.number turn.packet c.in-Some.number c.in-Some.rest.now cut
    (λ off. is_other c.is_text.ensures c.if-is_text.false (off ∙ sym c.off_line.ensures))
    (λ p is right words line. let read : None ≡ Some p = c.in_default-packet_of.ensures p is words in cc))

pub returns-then-not-is_checked-clause-exact : goal.returns-then-not-is_checked-clause-exact
returns-then-not-is_checked-clause-exact c = λ turn is.
    let cut : IsCut c.args.line.now turn.number turn.packet c.in-Some.number c.in-Some.rest.now = is_cut c.args.line.now turn.number turn.packet c.in-Some.number c.in-Some.rest.now is.0 is.1 c.in-Some.ensures in
    absurd (tells_nothing c.args.line.now turn.number turn.packet c.in-Some.number c.in-Some.rest.now cut
    (λ off. is_other c.is_text.ensures c.if-is_text.false (off ∙ sym c.off_line.ensures))
    (λ p is right words line.
    let read : Some c.in-Some-packet_of.packet ≡ Some p = c.in-Some-packet_of.ensures p is words in
    let same : c.in-Some-packet_of.packet ≡ p = cc in
    elim c.then-not-is_checked.branch [
      | then-not-is_checked-via-then-not-is_checked w ↦ let both : true ≡ false = sym right ∙ ap is_checked (sym same) ∙ sym c.is_checked.ensures ∙ w.if-not-is_checked.true in cc
      | then-not-is_checked-via-else-not-is_checked+then-not-is_text w ↦ is_other w.is_text-else-not-is_checked.ensures w.if-not-is_text.true (line ∙ ap (track_text c.in-Some.number) (sym same) ∙ sym w.track_line.ensures)
    ]))

pub returns-clause-exact : goal.returns-clause-exact
returns-clause-exact c = λ turn is.
    let cut : IsCut c.args.line.now turn.number turn.packet c.in-Some.number c.in-Some.rest.now = is_cut c.args.line.now turn.number turn.packet c.in-Some.number c.in-Some.rest.now is.0 is.1 c.in-Some.ensures in
    ap Ok (same_turn c.in-Some.number (Some c.in-Some-packet_of.packet) turn cut.same
    (tells_packet c.args.line.now turn.number turn.packet c.in-Some.number c.in-Some.rest.now c.in-Some-packet_of.packet cut (λ off. is_other c.is_text.ensures c.if-is_text.false (off ∙ sym c.off_line.ensures)) c.in-Some-packet_of.ensures))

pub returns-then-is_text-clause-turn : goal.returns-then-is_text-clause-turn
returns-then-is_text-clause-turn c = (search rules, c.is_text.ensures.0 c.if-is_text.true ∙ c.off_line.ensures)

pub returns-clause-turn : goal.returns-clause-turn
returns-clause-turn c = (search rules, (search rules, sym c.is_checked.ensures ∙ c.if-not-is_checked.false, c.is_text-else-not-is_checked.ensures.0 c.if-not-is_text.false ∙ c.track_line.ensures))
