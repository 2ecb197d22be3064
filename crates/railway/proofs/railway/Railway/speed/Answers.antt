use Rattle.std.proofs.Common.{◌≡◌, List, true, subst, sym}
use Rattle.std.proofs.lemmas.Bool.{and_parts}
use Rattle.std.specs.List.{list_all}
use Rattle.railway.specs.declared.train.TrainState.{TrainState}
use Rattle.railway.specs.Network.{is_sound}
use Rattle.railway.specs.Railway.{is_train}
use Rattle.railway.specs.Running.{can_run}
use Rattle.railway.proofs.Running.{all-run}
use Rattle.railway.proofs.railway.Railway.speed.Goals as goal

pub speed_in-requires : goal.speed_in-requires
speed_in-requires c =
    let network = c.self.inside.track in
    let trains = c.self.inside.trains.items in
    subst (λ (ts : List TrainState). list_all (can_run network.blocks) ts ≡ true) (sym c.as_slice.ensures.value)
    (all-run network trains (and_parts (is_sound network) (list_all (is_train network) trains) c.self.invariant).1)
