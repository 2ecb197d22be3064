use Rattle.std.proofs.Common.{ap, sym, ◌∙◌}
use Rattle.std.proofs.lemmas.List.Edits.{map_over_more}
use Rattle.std.specs.Prelude.{slice_set}
use Rattle.railway.specs.declared.train.TrainState.{TrainState}
use Rattle.railway.specs.Railway.{run_under}
use Rattle.railway.proofs.track.Track.run_all.Goals as goal

pub loop-train-preserved : goal.loop-train-preserved
loop-train-preserved c =
    let nodes = c.args.world.now.nodes in
    let power = c.args.world.now.station.powered.power in
    let i = c.loop-train.train-index in
    ap (λ (t : TrainState). slice_set c.loop-train.trains i t) c.run_under.ensures
    ∙ ap (λ (t : TrainState). slice_set c.loop-train.trains i (run_under power c.args.self.now c.args.micros nodes t)) (sym c.train-item.is)
    ∙ map_over_more (λ (t : TrainState). run_under power c.args.self.now c.args.micros nodes t) c.args.trains.now c.loop-train.trains i c.train-item.result
    c.loop-train-test.true c.loop-train.invariant c.train-item.is
