use Rattle.std.proofs.Common.{◌≡◌, ℕ, ap, sym, ◌∙◌, arith}
use Rattle.railway.specs.Network.{run_on}
use Rattle.railway.proofs.track.Track.run_on.Goals as goal

-- nothing is left of the way
pub returns-clause-run : goal.returns-clause-run
unfolding run_on
returns-clause-run c =
    let none : c.loop-left.left ≡ 0 = omega arith in
    sym (ap (λ (way : ℕ). run_on c.args.self.now c.loop-left.train way) none) ∙ c.loop-left.invariant.leads
