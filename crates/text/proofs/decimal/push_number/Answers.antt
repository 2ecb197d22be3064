use Rattle.std.proofs.Common.{arith, ap, length, length-append}
use Rattle.std.specs.Fmt.{decimal}
use Rattle.std.proofs.lemmas.Fmt.{length-decimal-le}
use Rattle.text.proofs.decimal.push_number.Goals as goal

pub push_decimal-requires : goal.push_decimal-requires
push_decimal-requires g c = omega (arith, length-decimal-le 20 c.args.n (omega arith) (omega arith) (omega arith))

pub returns-clause-len : goal.returns-clause-len
returns-clause-len g c =
    omega (arith, length-decimal-le 20 c.args.n (omega arith) (omega arith) (omega arith), ap length c.push_decimal.ensures, length-append c.args.text.now.bytes (decimal c.args.n))
