use Rattle.std.proofs.Common.{◌≡◌, ◌∙◌, Some, None, ap, drop, sym}
use Rattle.trace.proofs.Turns.{cut_there, some_space}
use Rattle.trace.proofs.line.cut_turn.Goals as goal

pub returns-in_err-end : goal.returns-in_err-end
returns-in_err-end c = λ turn rest small is.
    rw c.from_residual-in_err-end.ensures (some_space c.in_ok-text.text.now turn rest small (c.in_ok-text.ensures.cases.1 ∙ ap (drop 6) is) (sym c.in_err-end.ensures))

pub returns-in_err-turn : goal.returns-in_err-turn
returns-in_err-turn c = λ turn rest small is.
    let cut = cut_there c.in_ok-text.text.now c.in_ok-end.end turn rest small (c.in_ok-text.ensures.cases.1 ∙ ap (drop 6) is) (sym c.in_ok-end.ensures) in
    let read : None ≡ Some turn = c.in_err-turn.ensures turn small cut.0 in
    cc

pub returns : goal.returns
returns c = λ turn rest small is.
    let cut = cut_there c.in_ok-text.text.now c.in_ok-end.end turn rest small (c.in_ok-text.ensures.cases.1 ∙ ap (drop 6) is) (sym c.in_ok-end.ensures) in
    let read : Some c.in_ok-turn.turn ≡ Some turn = c.in_ok-turn.ensures turn small cut.0 in
    let number : c.in_ok-turn.turn ≡ turn = cc in
    (number, cut.1)
