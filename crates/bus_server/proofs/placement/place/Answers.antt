use Rattle.std.proofs.Common.{◌≡◌, ℕ, List, ap, ◌∙◌}
use Rattle.railway.specs.declared.train.Position.{Position}
use Rattle.railway.specs.declared.train.TrainState.{TrainState}
use Rattle.railway.specs.Course.{reports_of}
use Rattle.railway.specs.Course.Happening.{Places}
use Rattle.bus_server.specs.NamedNodes.{names_of}
use Rattle.bus_server.specs.Placement.{position_of, train_named, train_of}
use Rattle.bus_server.proofs.placement.place.Goals as goal

pub returns-clause-reports : goal.returns-clause-reports
returns-clause-reports c =
    let railway = c.args.railway.now in
    let placement = c.args.placement.now in
    let names = names_of c.args.nodes.now.items in
    let index : c.train_named-train.result ≡ train_of names railway placement =
    c.train_named-train.ensures ∙ ap (λ (trains : List TrainState). train_named names trains c.as_slice.result.now) c.trains.ensures.trains
    ∙ ap (train_named names railway.trains) c.as_slice.ensures.value in
    c.place_at.ensures.reports
    ∙ ap (λ (position : Position). reports_of railway (Places c.train_named-train.result position)) c.position_of-position.ensures
    ∙ ap (λ (train : ℕ). reports_of railway (Places train (position_of railway train placement))) index
