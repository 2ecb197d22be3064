use Rattle.std.proofs.Common.{◌≡◌, List, true, length, ap, ap₂, subst, sym, ◌∙◌}
use Rattle.std.proofs.lemmas.Bool.{and_parts}
use Rattle.std.specs.List.{list_all, refill}
use Rattle.refresh_ring.specs.declared.pick.Power.{Power}
use Rattle.railway.specs.declared.train.TrainState.{TrainState}
use Rattle.railway.specs.Network.{Network, is_sound}
use Rattle.railway.specs.Railway.{RailwayState, is_piece, is_railway, is_train, run_through, ran_in, run_under}
use Rattle.railway.specs.Running.{can_run}
use Rattle.railway.proofs.Pieces.{piece-run_through, railway_of, ran-kept}
use Rattle.railway.proofs.Running.{all-run, refilled}
use Rattle.railway.proofs.railway.Railway.pass_piece.Goals as goal

pub run_all-requires : goal.run_all-requires
run_all-requires c =
    let network = c.self.inside.track in
    let trains = c.self.inside.trains.items in
    record {
      run = subst (λ (ts : List TrainState). list_all (can_run network.blocks) ts ≡ true) (sym c.as_mut_slice.ensures.value)
          (all-run network trains (and_parts (is_sound network) (list_all (is_train network) trains) c.self.invariant).1);
    }

-- the power of the track
abbrev power_of : goal.After-advance → Power
power_of c = c.args.world.now.station.powered.power

-- the railway before
abbrev old_of : goal.After-advance → RailwayState
old_of c = record { network = c.self.inside.track; trains = c.self.inside.trains.items; failing = c.self.inside.failing }

ran : (c : goal.After-advance)
    → railway_of (old_of c) c.advance.new.self (refill (length c.self.inside.trains.items) c.self.inside.trains.items c.run_all.new.trains)
    ≡ ran_in (power_of c) c.args.micros c.args.world.now.nodes (old_of c)
ran c =
    ap₂ (λ (n : Network) (ts : List TrainState). railway_of (old_of c) n ts) c.advance.ensures
    (refilled (run_under (power_of c) c.self.inside.track c.args.micros c.args.world.now.nodes) c.self.inside.trains.items c.as_mut_slice.result.now c.run_all.new.trains c.as_mut_slice.ensures.value c.run_all.ensures)

pub invariant_of-self : goal.invariant_of-self
invariant_of-self c =
    subst (λ (r : RailwayState). is_railway r ≡ true) (sym (ran c)) (ran-kept (power_of c) c.args.micros c.args.world.now.nodes (old_of c) c.self.invariant)

pub returns : goal.returns
returns c =
    let nodes = c.args.world.now.nodes in
    let piece : is_piece (power_of c) c.args.micros c.self.inside.track ≡ true =
    subst (λ (r : RailwayState). is_piece (power_of c) c.args.micros r.network ≡ true) (sym c.self.view_is) c.requires.piece in
    ran c ∙ sym (piece-run_through (power_of c) nodes c.args.micros (old_of c) c.requires.goes piece)
    ∙ ap (λ (r : RailwayState). run_through (power_of c) c.args.micros nodes r) c.self.view_is
