use Rattle.std.proofs.Common.{◌≡◌, List, None, true, ap, subst, sym, ◌∙◌}
use Rattle.std.specs.List.{slice_index_or}
use Rattle.std.specs.Prelude.{slice_set}
use Rattle.railway.specs.declared.train.TrainState.{TrainState}
use Rattle.railway.specs.Railway.{RailwayState, is_railway, place_fault, replaced}
use Rattle.railway.specs.Trains.{default_state}
use Rattle.railway.proofs.Placing.{placed-railway}
use Rattle.railway.proofs.railway.Railway.put.Goals as goal

pub invariant_of-self : goal.invariant_of-self
invariant_of-self c =
    let old : RailwayState = record { network = c.self.inside.track; trains = c.self.inside.trains.items; failing = c.self.inside.failing } in
    let none : place_fault old c.args.train c.args.position ≡ None = ap (λ (r : RailwayState). place_fault r c.args.train c.args.position) c.self.view_is ∙ c.requires in
    let same : c.replaced-self-inside.result.items ≡ slice_set old.trains c.args.train (replaced old.network (slice_index_or old.trains c.args.train default_state) c.args.position) =
    c.replaced-self-inside.ensures
    ∙ ap (λ (ts : List TrainState). slice_set ts c.args.train (replaced old.network (slice_index_or ts c.args.train default_state) c.args.position)) c.as_slice.ensures.value in
    subst (λ (ts : List TrainState). is_railway (record old { trains = ts }) ≡ true) (sym same) (placed-railway old c.args.train c.args.position c.self.invariant none)
