use Rattle.std.proofs.Common.{◌≡◌, ℕ, ◌-◌, ap, sym, ◌∙◌, arith}
use Rattle.railway.specs.declared.train.TrainState.{TrainState}
use Rattle.railway.specs.Running.{ridden}
use Rattle.railway.proofs.Riding.{leg-rest}
use Rattle.railway.proofs.track.Track.ride.Goals as goal

pub loop-left-preserved : goal.loop-left-preserved
loop-left-preserved c =
    let n = c.args.self.now in
    let d = c.args.drive in
    let leg = c.leg-leg.result in
    let rest : ℕ = c.loop-left.left - leg.micros in
    record {
      leads = ap (λ (t : TrainState). ridden n d rest t) c.run_leg.ensures.moved ∙ leg-rest n d c.loop-left.train c.loop-left.left leg c.leg-leg.ensures.leg ∙ c.loop-left.invariant.leads;
      run = c.run_leg.ensures.runs;
    }

-- nothing is left of the time
pub returns-clause-ridden : goal.returns-clause-ridden
unfolding ridden
returns-clause-ridden c =
    let none : c.loop-left.left ≡ 0 = omega arith in
    sym (ap (λ (k : ℕ). ridden c.args.self.now c.args.drive k c.loop-left.train) none) ∙ c.loop-left.invariant.leads
