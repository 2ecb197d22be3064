use Rattle.std.proofs.Common.{◌≡◌, ◌+◌, ◌==◌, ◌∙◌, ℕ, suc, true, false, List, ◌++◌, take, drop}
use Rattle.std.proofs.Common.{ap, sym, append-nil, arith}
use Rattle.std.proofs.lemmas.List.{take_rest}
use Rattle.std.specs.Prelude.{codes}
use Rattle.std.specs.List.{starts_with}
use Rattle.explain.specs.HexText.{before_two_spaces}
use Rattle.explain.proofs.TwoSpaces.{ends, goes_on, stops}
use Rattle.explain.proofs.hex.before_two_spaces.Goals as goal

pub returns-then-starts_with : goal.returns-then-starts_with
returns-then-starts_with c =
    let text : List ℕ = c.args.text.now in
    let i : ℕ = c.loop-i.i in
    let here : starts_with ◌==◌ (drop i text) (codes "  ") ≡ true =
    ap (λ (back : List ℕ). starts_with ◌==◌ back (codes "  ")) (sym (take_rest text i))
    ∙ sym c.starts_with.ensures.value ∙ c.if-starts_with.true in
    sym (append-nil (take i text))
    ∙ ap (λ (back : List ℕ). take i text ++ back) (sym (stops text i c.loop-i-test.true here))
    ∙ c.loop-i.invariant

pub loop-i-preserved : goal.loop-i-preserved
loop-i-preserved c =
    let text : List ℕ = c.args.text.now in
    let i : ℕ = c.loop-i.i in
    let next : i + 1 ≡ suc i = omega arith in
    let not_here : starts_with ◌==◌ (drop i text) (codes "  ") ≡ false =
    ap (λ (back : List ℕ). starts_with ◌==◌ back (codes "  ")) (sym (take_rest text i))
    ∙ sym c.starts_with.ensures.value ∙ c.if-starts_with.false in
    ap (λ (n : ℕ). take n text ++ before_two_spaces (drop n text)) next
    ∙ goes_on text i c.loop-i-test.true not_here ∙ c.loop-i.invariant

pub returns : goal.returns
returns c =
    sym (ends c.args.text.now c.loop-i.i (omega (arith, c.loop-i-test.false)))
    ∙ c.loop-i.invariant
