use Rattle.std.proofs.Common.{◌≡◌, ℕ, ◌-◌, ◌*◌, ◌/◌, ◌≤◌, refl, ap, ◌∙◌, arith}
use Rattle.std.proofs.Math.Nat.{mul-le-mul}
use Rattle.motion.specs.Velocity.{sum_below}
use Rattle.motion.proofs.Steps.{sum-half}
use Rattle.motion.proofs.leg.sum_below.Goals as goal

bound : (n m s : ℕ) → n ≤ 1048577 → m ≤ 1048576 → n * m / 2 ≡ s → s ≤ 549756338176
bound n m s h g e = let most : n * m ≤ 1048577 * 1048576 = mul-le-mul h g in omega (arith, most, e)

pub returns : goal.returns
returns c =
    let n = c.from-n.result in
    let is : n ≡ c.args.n = c.from-n.ensures in
    let less : c.saturating_sub.result ≡ n - 1 = c.saturating_sub.ensures in
    let sum : n * c.saturating_sub.result / 2 ≡ sum_below c.args.n = ap (λ (k : ℕ). n * k / 2) less ∙ sum-half n ∙ ap (λ (k : ℕ). sum_below k) is in
    record { sum = sum; small = bound n c.saturating_sub.result (n * c.saturating_sub.result / 2) (omega arith) (omega arith) refl }
