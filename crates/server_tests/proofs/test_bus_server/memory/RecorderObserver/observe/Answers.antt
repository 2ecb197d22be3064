use Rattle.std.proofs.Common.{◌∷◌, ◌++◌, [], List, Option, ap, ap₂, map, sym, ◌∙◌}
use Rattle.layout_core.specs.declared.node.Node.{Node}
use Rattle.railway.specs.Railway.{RailwayState}
use Rattle.bus_server.specs.Observations.{Observed, Observation}
use Rattle.server_tests.specs.Kept.{observation_of}
use Rattle.server_tests.proofs.Small.{none_there}
use Rattle.server_tests.proofs.test_bus_server.memory.RecorderObserver.observe.Goals as goal

pub returns-clause-observed : goal.returns-clause-observed
returns-clause-observed g c =
    let before = map observation_of c.args.self.now.log.items in
    c.keep.ensures ∙ ap (λ (observed : Observation). before ++ observed ∷ []) c.seen_of-seen.ensures
    ∙ ap₂ (λ (nodes : List Node) (railway : Option RailwayState). before ++ Observed c.args.outcome.now nodes railway ∷ []) (sym (none_there c.args._world.now.nodes c.requires)) (sym c.refuse_railway.ensures)
