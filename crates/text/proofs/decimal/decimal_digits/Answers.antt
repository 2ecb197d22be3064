use Rattle.std.proofs.Common.{◌≡◌, ◌++◌, length, ap, ◌∙◌, arith}
use Rattle.std.specs.Fmt.{decimal}
use Rattle.text.proofs.Fits.{few, few-middle, few-small}
use Rattle.text.proofs.decimal.decimal_digits.Goals as goal

pub push_decimal-requires : goal.push_decimal-requires
push_decimal-requires c =
    let most = few c.args.n (omega arith) in
    omega (arith, most, ap length c.new-digits.ensures)

written : (c : goal.After-push_decimal) → c.push_decimal.new.text.items ≡ decimal c.args.n
written c = c.push_decimal.ensures ∙ ap (λ items. items ++ decimal c.args.n) c.new-digits.ensures

pub returns-clause-small : goal.returns-clause-small
returns-clause-small c = few-small c.args.n c.push_decimal.new.text.items (written c)

pub returns-clause-middle : goal.returns-clause-middle
returns-clause-middle c = few-middle c.args.n c.push_decimal.new.text.items (written c)
