use Rattle.std.proofs.Common.{◌≡◌, true, subst, sym}
use Rattle.std.proofs.lemmas.Bool.{and_from, and_parts}
use Rattle.railway.specs.declared.train.TrainState.{TrainState}
use Rattle.railway.specs.Places.{turned}
use Rattle.railway.specs.Running.{is_within}
use Rattle.railway.specs.Trains.{is_movable}
use Rattle.railway.proofs.Riding.{run-movable, set-movable, with_velocity}
use Rattle.railway.proofs.track.Track.run_leg.Goals as goal

pub returns-then-leg-clause-runs : goal.returns-then-leg-clause-runs
returns-then-leg-clause-runs c =
    let n = c.args.self.now in
    let start : TrainState = with_velocity c.args.leg.velocity c.args.train.now in
    let ran : TrainState = c.run_on.new.train in
    let can = and_parts (is_within n.blocks c.args.train.now) (is_movable c.args.train.now) c.requires.runs in
    and_from (is_within n.blocks ran) (is_movable ran) c.run_on.ensures.within
    (subst (λ (t : TrainState). is_movable t ≡ true) (sym c.run_on.ensures.run) (run-movable n start c.args.leg.way (set-movable c.args.leg.velocity c.args.train.now c.requires.slow can.1)))

pub returns-else-leg-clause-runs : goal.returns-else-leg-clause-runs
returns-else-leg-clause-runs c =
    let n = c.args.self.now in
    let start : TrainState = turned (with_velocity c.args.leg.velocity c.args.train.now) in
    let ran : TrainState = c.run_back.new.train in
    let can = and_parts (is_within n.blocks c.args.train.now) (is_movable c.args.train.now) c.requires.runs in
    and_from (is_within n.blocks ran) (is_movable ran) c.run_back.ensures.within
    (subst (λ (t : TrainState). is_movable t ≡ true) (sym c.run_back.ensures.run) (run-movable n start c.args.leg.way (set-movable c.args.leg.velocity c.args.train.now c.requires.slow can.1)))
