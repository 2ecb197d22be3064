use Rattle.std.proofs.Common.{◌≡◌, ℕ, ◌*◌, Bool, List, refl, ap, sym, ◌∙◌, arith}
use Rattle.motion.specs.declared.velocity.Velocity.{Velocity}
use Rattle.motion.specs.Velocity.{velocity}
use Rattle.railway.specs.declared.train.TrainState.{TrainState}
use Rattle.railway.specs.Laws.{asked_of, velocity_of, way_of}
use Rattle.railway.specs.Network.{marked}
use Rattle.railway.specs.Running.{run_by}
use Rattle.railway.proofs.Keeping.{whole-of}
use Rattle.railway.proofs.Riding.{run_by-zero, with_under, with_velocity}
use Rattle.railway.proofs.Running.{emergency-forward, emergency-momentum, emergency-speed, in-one-way}
use Rattle.railway.proofs.Runs.{parts-of}
use Rattle.railway.proofs.laws.trains_stand_at_once.Goals as goal

no-way : (speed micros way : ℕ) → speed ≡ 0 → way ≡ speed * micros → way ≡ 0
no-way speed micros way h g = let none : 0 * micros ≡ 0 = omega arith in g ∙ ap (λ (s : ℕ). s * micros) h ∙ none

pub returns-clause-emergency : goal.returns-clause-emergency
returns-clause-emergency c network train micros nodes running h rails runs emergency time =
    let drive = asked_of nodes train in
    let at_once = c.without_momentum_at_once.ensures in
    let none = emergency-momentum nodes train running runs emergency in
    let way : way_of nodes micros train ≡ 0 = no-way drive.speed micros (way_of nodes micros train) (emergency-speed nodes train running runs emergency) (at_once.way drive train.velocity micros none) in
    let stands : velocity_of nodes micros train ≡ velocity running.forward 0 =
    at_once.velocity drive train.velocity micros none time
    ∙ ap (λ (f : Bool). velocity f drive.speed) (emergency-forward nodes train running runs)
    ∙ ap (λ (s : ℕ). velocity running.forward s) (emergency-speed nodes train running runs emergency) in
    in-one-way network drive.forward micros nodes train rails (at_once.direction drive train.velocity micros none)
    ∙ ap (λ (w : ℕ). marked network (run_by network drive.forward w (with_velocity (velocity_of nodes micros train) train))) way
    ∙ ap (λ (t : TrainState). marked network t) (sym (run_by-zero network drive.forward (with_velocity (velocity_of nodes micros train) train)))
    ∙ ap (λ (m : List Bool). with_under m (with_velocity (velocity_of nodes micros train) train)) (sym (whole-of network train (parts-of network train h).whole rails).knows)
    ∙ ap (λ (v : Velocity). with_velocity v train) stands

pub returns-clause-power : goal.returns-clause-power
returns-clause-power c network train micros nodes = refl
