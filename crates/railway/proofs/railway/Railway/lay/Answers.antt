use Rattle.std.proofs.Common.{◌≡◌, List, false, ap, sym, ◌∙◌}
use Rattle.std.specs.List.{list_any}
use Rattle.railway.specs.declared.train.TrainState.{TrainState}
use Rattle.railway.specs.Network.{Network}
use Rattle.railway.specs.Railway.{RailwayState}
use Rattle.railway.specs.Turnouts.{is_changed, laid}
use Rattle.railway.proofs.Throwing.{unchanged-laid, unchanged-none, unmoved-trains}
use Rattle.railway.proofs.railway.Railway.lay.Goals as goal

pub returns-else-is_changed : goal.returns-else-is_changed
returns-else-is_changed c =
    let n = c.self.inside.track in
    let trains = c.self.inside.trains.items in
    let nodes = c.args.world.now.nodes in
    let none : list_any (is_changed nodes) n.turnouts ≡ false = sym c.is_changed.ensures ∙ c.if-is_changed.false in
    let laid_one : RailwayState = record { network = laid nodes n; trains = trains; failing = c.self.inside.failing } in
    rw (← c.self.view_is)
    (ap (λ (m : Network). record laid_one { network = m }) (sym (unchanged-laid nodes n none))
    ∙ ap (λ (ts : List TrainState). record laid_one { trains = ts }) (sym (unmoved-trains nodes n trains (unchanged-none nodes n.turnouts none))))
