use Rattle.std.proofs.Common.{◌+◌, ◌/◌, ◌%◌, ◌++◌, ◌∷◌, [], length, arith, ap, sym, ◌∙◌, append_assoc, length-append}
use Rattle.std.specs.Fmt.{decimal}
use Rattle.std.proofs.lemmas.Fmt.{decimal_digit}
use Rattle.text.proofs.Writing.{two_digits, two_more_digits, length-decimal_more}
use Rattle.text.proofs.decimal.+push_decimal.Goals as goal

pub push_ascii-requires-clause-room : goal.push_ascii-requires-clause-room
push_ascii-requires-clause-room g t c = omega (arith, ap length (decimal_digit c.args.n (omega arith)))

pub push_two_digits-requires-clause-room : goal.push_two_digits-requires-clause-room
push_two_digits-requires-clause-room g t c = omega (arith, ap length (two_digits c.args.n (omega arith) (omega arith)))

pub push_decimal-requires : goal.push_decimal-requires
push_decimal-requires g t c = λ κs outlives.
    let more = length-decimal_more c.args.n (omega arith) (omega arith) in
    (omega arith, (outlives, omega (arith, more)))

pub push_two_digits-requires-in_default-clause-room : goal.push_two_digits-requires-in_default-clause-room
push_two_digits-requires-in_default-clause-room g t c =
    let more = length-decimal_more c.args.n (omega arith) (omega arith) in
    omega (arith, more, ap length c.push_decimal.ensures, length-append (g.T.PushAscii.bytes c.args.text.now) (decimal (c.args.n / 100)))

pub returns-in-0-to-9 : goal.returns-in-0-to-9
returns-in-0-to-9 g t c = rw (decimal_digit c.args.n (omega arith)) c.push_ascii.ensures

pub returns-in-10-to-99 : goal.returns-in-10-to-99
returns-in-10-to-99 g t c = rw (two_digits c.args.n (omega arith) (omega arith)) c.push_two_digits.ensures

pub returns-in_default : goal.returns-in_default
returns-in_default g t c =
    let old = g.T.PushAscii.bytes c.args.text.now in
    let last = (48 + c.args.n % 100 / 10) ∷ (48 + c.args.n % 100 % 10) ∷ [] in
    c.push_two_digits-in_default.ensures ∙ ap (λ l. l ++ last) c.push_decimal.ensures
    ∙ append_assoc old (decimal (c.args.n / 100)) last ∙ ap (λ l. old ++ l) (sym (two_more_digits c.args.n (omega arith) (omega arith)))
