use Rattle.std.proofs.Common.{◌≡◌, ◌∙◌, true, Ok, Some, ap, sym}
use Rattle.trace.specs.Traffic.{is_of_turn}
use Rattle.trace.proofs.Turns.{one_turn}
use Rattle.trace.proofs.line.turn_in.Goals as goal

pub returns-in_err-turn_of-clause-exact : goal.returns-in_err-turn_of-clause-exact
returns-in_err-turn_of-clause-exact c = λ item parses.
    let as_turn : is_of_turn c.args.line.now ≡ true = sym c.is_of_turn.ensures ∙ c.if-not-is_of_turn.false in
    let one = one_turn c.args.line.now item c.turn_of.result as_turn c.turn_of.ensures.exact parses in
    let bad = sym c.in_err-turn_of.was ∙ one.2 in
    absurd (cc)

pub returns-clause-exact : goal.returns-clause-exact
returns-clause-exact c = λ item parses.
    let as_turn : is_of_turn c.args.line.now ≡ true = sym c.is_of_turn.ensures ∙ c.if-not-is_of_turn.false in
    let one = one_turn c.args.line.now item (Ok c.in_ok-turn_of.field-0) as_turn c.in_ok-turn_of.ensures.exact parses in
    let read : Ok c.in_ok-turn_of.field-0 ≡ Ok one.0 = one.2 in
    let same : c.in_ok-turn_of.field-0 ≡ one.0 = cc in
    ap Ok (ap Some same ∙ sym one.1)
