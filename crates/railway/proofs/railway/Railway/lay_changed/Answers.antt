use Rattle.std.proofs.Common.{◌≡◌, List, true, map, ap, subst, sym, ◌∙◌}
use Rattle.std.proofs.lemmas.Bool.{and_from, and_parts}
use Rattle.std.specs.List.{list_all}
use Rattle.railway.specs.declared.train.TrainState.{TrainState}
use Rattle.railway.specs.Network.{Network, is_sound}
use Rattle.railway.specs.Railway.{is_railway, is_train}
use Rattle.railway.specs.Running.{can_run}
use Rattle.railway.specs.Turnouts.{checked, laid}
use Rattle.railway.proofs.Leading.{laid-sound}
use Rattle.railway.proofs.Running.{all-run}
use Rattle.railway.proofs.Throwing.{all-checked}
use Rattle.railway.proofs.railway.Railway.lay_changed.Goals as goal

pub check_all-self-inside-requires-clause-run : goal.check_all-self-inside-requires-clause-run
check_all-self-inside-requires-clause-run c =
    let network = c.self.inside.track in
    let trains = c.self.inside.trains.items in
    subst (λ (ts : List TrainState). list_all (can_run network.blocks) ts ≡ true) (sym c.as_slice.ensures.value)
    (all-run network trains (and_parts (is_sound network) (list_all (is_train network) trains) c.self.invariant).1)

pub invariant_of-self : goal.invariant_of-self
invariant_of-self c =
    let old = c.self.inside.track in
    let trains = c.self.inside.trains.items in
    let nodes = c.args.world.now.nodes in
    let new : Network = laid nodes old in
    let parts = and_parts (is_sound old) (list_all (is_train old) trains) c.self.invariant in
    let same : c.check_all-self-inside.result.items ≡ map (checked nodes old) trains =
    c.check_all-self-inside.ensures ∙ ap (λ (ts : List TrainState). map (checked nodes old) ts) c.as_slice.ensures.value in
    let is : is_railway (record { network = new; trains = map (checked nodes old) trains; failing = c.self.inside.failing }) ≡ true =
    and_from (is_sound new) (list_all (is_train new) (map (checked nodes old) trains)) (laid-sound nodes old parts.0) (all-checked nodes old trains parts.1) in
    subst (λ (n : Network). is_railway (record { network = n; trains = c.check_all-self-inside.result.items; failing = c.self.inside.failing }) ≡ true) (sym c.lay.ensures)
    (subst (λ (ts : List TrainState). is_railway (record { network = new; trains = ts; failing = c.self.inside.failing }) ≡ true) (sym same) is)
