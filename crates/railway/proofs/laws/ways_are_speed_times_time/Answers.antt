use Rattle.std.proofs.Common.{◌≡◌, ℕ, None, ap, ◌∙◌}
use Rattle.std.specs.Prelude.{IsTrue, List}
use Rattle.layout_core.specs.declared.node.Node.{Node}
use Rattle.railway.specs.declared.train.TrainState.{TrainState}
use Rattle.railway.specs.Laws.{asked_of, leading, runs_only, speed_times_time, way_of}
use Rattle.railway.specs.Network.{way_on}
use Rattle.railway.specs.Places.{leading_end}
use Rattle.railway.specs.Railway.{run_in}
use Rattle.railway.specs.Trains.{is_forward, running_in}
use Rattle.railway.proofs.Running.{in-reaches, in-same, no-momentum}
use Rattle.railway.proofs.laws.ways_are_speed_times_time.Goals as goal

is-way : (c : goal.After-without_momentum_at_once) (t : TrainState) (micros : ℕ) (nodes : List Node) → t.momentum ≡ None → way_of nodes micros t ≡ speed_times_time nodes micros t
is-way c t micros nodes h = c.without_momentum_at_once.ensures.way (asked_of nodes t) t.velocity micros (no-momentum (running_in nodes t.decoder) t.momentum h)

one-way : (c : goal.After-without_momentum_at_once) (t : TrainState) (micros : ℕ) (nodes : List Node) → t.momentum ≡ None → IsTrue (runs_only (is_forward (running_in nodes t.decoder)) nodes micros t)
one-way c t micros nodes h = c.without_momentum_at_once.ensures.direction (asked_of nodes t) t.velocity micros (no-momentum (running_in nodes t.decoder) t.momentum h)

pub returns-clause-way : goal.returns-clause-way
returns-clause-way c train micros nodes h = is-way c train micros nodes h

pub returns-clause-direction : goal.returns-clause-direction
returns-clause-direction c train micros nodes h = one-way c train micros nodes h

pub returns-clause-goes : goal.returns-clause-goes
returns-clause-goes c network train micros nodes place is h rails none way =
    let forward = is_forward (running_in nodes train.decoder) in
    let whole = ap (λ (w : ℕ). way_on network (leading nodes train) w) (is-way c train micros nodes none) ∙ way in
    ap (λ (d : ℕ). leading_end (is_forward (running_in nodes d)) (run_in network micros nodes train)) (in-same network micros nodes train).decoder
    ∙ (in-reaches network forward micros nodes train place is h rails (one-way c train micros nodes none) whole).0

pub returns-clause-rails : goal.returns-clause-rails
returns-clause-rails c network train micros nodes place is h rails none way =
    let forward = is_forward (running_in nodes train.decoder) in
    let whole = ap (λ (w : ℕ). way_on network (leading nodes train) w) (is-way c train micros nodes none) ∙ way in
    (in-reaches network forward micros nodes train place is h rails (one-way c train micros nodes none) whole).1
