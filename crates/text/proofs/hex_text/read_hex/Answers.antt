use Rattle.std.proofs.Common.{◌-◌, ◌∙◌, eqb-true, length, sym, arith}
use Rattle.text.proofs.HexPieces.{empty_piece, hex_too_long, hex_within, no_byte, no_more_pieces, one_more_byte}
use Rattle.text.proofs.hex_text.read_hex.Goals as goal

pub returns-then-text-gt-LONGEST_TEXT-clause-fault : goal.returns-then-text-gt-LONGEST_TEXT-clause-fault
returns-then-text-gt-LONGEST_TEXT-clause-fault c known = hex_too_long c.args.text.now c.if-text-gt-LONGEST_TEXT.true

pub returns-in_default-clause-fault : goal.returns-in_default-clause-fault
returns-in_default-clause-fault c known =
    let cut = c.cut_at_white_space.ensures in
    let sofar = c.loop-rest.invariant in
    hex_within c.args.text.now c.if-text-gt-LONGEST_TEXT.false ∙ no_byte (length c.args.text.now) c.loop-rest.bytes.items c.loop-rest.rest.now c.cut_at_white_space.result.0.now c.cut_at_white_space.result.1.now _ cut.pieces cut.shorter sofar.within (sym c.if-not-is_empty.ensures) (sym c.read_hex_pair.ensures ∙ c.in_default.is) sofar.read

pub loop-rest-preserved-in_ok-push : goal.loop-rest-preserved-in_ok-push
loop-rest-preserved-in_ok-push c = record {
  within = omega (arith, c.cut_at_white_space.ensures.shorter, c.loop-rest.invariant.within);
  read = rw c.in_ok-push.ensures.items (one_more_byte (length c.args.text.now) c.in-Some.byte c.loop-rest.bytes.items c.loop-rest.rest.now c.cut_at_white_space.result.0.now c.cut_at_white_space.result.1.now _ c.cut_at_white_space.ensures.pieces c.cut_at_white_space.ensures.shorter c.loop-rest.invariant.within (sym c.read_hex_pair.ensures ∙ c.in-Some.is) c.loop-rest.invariant.read);
}

pub loop-rest-preserved : goal.loop-rest-preserved
loop-rest-preserved c = record {
  within = omega (arith, c.cut_at_white_space.ensures.shorter, c.loop-rest.invariant.within);
  read = empty_piece (length c.args.text.now) c.loop-rest.bytes.items c.loop-rest.rest.now c.cut_at_white_space.result.0.now c.cut_at_white_space.result.1.now _ c.cut_at_white_space.ensures.pieces c.cut_at_white_space.ensures.shorter c.loop-rest.invariant.within (eqb-true (length c.cut_at_white_space.result.0.now) 0 (sym c.if-not-is_empty.ensures)) c.loop-rest.invariant.read;
}

pub returns-clause-bytes : goal.returns-clause-bytes
returns-clause-bytes c =
    let none = eqb-true (length c.loop-rest.rest.now) 0 (sym c.loop-rest-test.ensures) in
    hex_within c.args.text.now c.if-text-gt-LONGEST_TEXT.false ∙ no_more_pieces (length c.args.text.now - length c.loop-rest.rest.now) c.loop-rest.bytes.items c.loop-rest.rest.now _ none c.loop-rest.invariant.read
