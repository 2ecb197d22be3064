use Rattle.std.proofs.Common.{◌≡◌, ◌≤◌, List, ap, subst, sym, true, ◌∙◌, arith}
use Rattle.std.proofs.lemmas.Bool.{and_parts}
use Rattle.std.proofs.lemmas.Bool.Decides.{nat_tests}
use Rattle.std.specs.List.{list_all}
use Rattle.railway.specs.declared.train.TrainState.{TrainState}
use Rattle.railway.specs.Laws.{is_one_way}
use Rattle.railway.specs.Network.{is_sound}
use Rattle.railway.specs.Passing.{longest_turn}
use Rattle.railway.specs.Railway.{RailwayState, is_railway, is_train}
use Rattle.railway.specs.Trains.{is_movable}
use Rattle.railway.proofs.Running.{all-movable}
use Rattle.railway.proofs.Sensing.{piece-seen}
use Rattle.railway.proofs.railway.Railway.piece.Goals as goal

pub time_one_way-one_way-requires-clause-movable : goal.time_one_way-one_way-requires-clause-movable
time_one_way-one_way-requires-clause-movable c =
    let network = c.self.inside.track in
    let trains = c.self.inside.trains.items in
    subst (λ (ts : List TrainState). list_all is_movable ts ≡ true) (sym c.as_slice.ensures.value)
    (all-movable network trains (and_parts (is_sound network) (list_all (is_train network) trains) c.self.invariant).1)

pub returns-clause-seen : goal.returns-clause-seen
returns-clause-seen c block within =
    let nodes = c.args.world.now.nodes in
    let railway : is_railway c.args.self.now ≡ true = subst (λ (r : RailwayState). is_railway r ≡ true) c.self.view_is c.self.invariant in
    let trains = c.as_slice.ensures.value ∙ ap (λ (r : RailwayState). r.trains) c.self.view_is in
    let one_way : list_all (is_one_way nodes c.piece.result) c.args.self.now.trains ≡ true =
    subst (λ (ts : List TrainState). list_all (is_one_way nodes c.piece.result) ts ≡ true) trains (c.time_one_way-one_way.ensures.one_way c.piece.result c.piece.ensures.part) in
    let least : c.min.result ≤ longest_turn = grind (arith, nat_tests, c.min.ensures) in
    let short : c.piece.result ≤ longest_turn = omega (arith, least, c.time_one_way-one_way.ensures.part, c.piece.ensures.part) in
    piece-seen c.args.world.now.station.powered.power nodes c.piece.result c.args.self.now block railway one_way short within
