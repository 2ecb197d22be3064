use Rattle.std.proofs.Common.{Bool, List, ◌||◌, ap, false, ◌∙◌}
use Rattle.std.proofs.lemmas.List.{get_or-replicate}
use Rattle.std.specs.List.{slice_index_or}
use Rattle.railway.specs.Reports.{is_occupied}
use Rattle.railway.proofs.report.occupied.Goals as goal

pub loop-train-init : goal.loop-train-init
loop-train-init c block h =
    let trains = c.args.trains.now in
    ap (λ (m : List Bool). slice_index_or m block false || is_occupied trains block) c.empty-blocks.ensures
    ∙ ap (λ (b : Bool). b || is_occupied trains block) (get_or-replicate 64 block false false h)
