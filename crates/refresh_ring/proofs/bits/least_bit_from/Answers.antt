use Rattle.std.proofs.Common.{◌≡◌, ◌<◌, sym, ◌∙◌, ap, arith, rules}
use Rattle.std.specs.Int.{bit_at}
use Rattle.std.proofs.lemmas.Nat.Bits.{bit_at-zero}
use Rattle.refresh_ring.proofs.Masks.{inside, least, masked}
use Rattle.refresh_ring.proofs.bits.least_bit_from.Goals as goal

pub returns-then-high-eq0 : goal.returns-then-high-eq0
returns-then-high-eq0 c i h =
    let none : masked c.args.word c.args.k ≡ 0 = search rules in
    sym (inside c.args.word c.args.k i (omega arith) c.requires h) ∙ ap (λ m. bit_at m i) none ∙ bit_at-zero i

pub returns-else-high-eq0 : goal.returns-else-high-eq0
returns-else-high-eq0 c =
    let some : 0 < masked c.args.word c.args.k = omega (arith, c.if-high-eq0.false) in
    least c.args.word c.args.k (omega arith) c.requires some
