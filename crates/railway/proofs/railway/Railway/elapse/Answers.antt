use Rattle.std.proofs.Common.{◌≡◌, List, ap, subst, sym, ◌∙◌}
use Rattle.refresh_ring.specs.declared.pick.Power.{Power}
use Rattle.railway.specs.declared.block.Block.{Block}
use Rattle.railway.specs.Railway.{RailwayState, elapsed, is_sensed, is_sensed_in, is_sensed_through, laid_in, run_through}
use Rattle.railway.specs.Reports.{AreBlocksMarked, changes_through}
use Rattle.railway.proofs.Pieces.{run_through-blocks}
use Rattle.railway.proofs.railway.Railway.elapse.Goals as goal

-- the power of the track
abbrev power_of : goal.After-changes_through → Power
power_of c = c.args.world.now.station.powered.power

ran : (c : goal.After-changes_through) → c.pass-sensed.new.self ≡ elapsed c.args.self.now c.args.micros (power_of c) c.args.world.now.nodes
ran c = c.pass-sensed.ensures.railway ∙ ap (λ (r : RailwayState). run_through (power_of c) c.args.micros c.args.world.now.nodes r) c.lay.ensures

-- the blocks that the sensors found occupied
found : (c : goal.After-changes_through) → AreBlocksMarked c.args.self.now.network.blocks (is_sensed_in c.args.self.now c.args.micros (power_of c) c.args.world.now.nodes) c.pass-sensed.result
found c =
    subst (λ (r : RailwayState). AreBlocksMarked r.network.blocks (is_sensed_through (power_of c) c.args.micros c.args.world.now.nodes r) c.pass-sensed.result) c.lay.ensures c.pass-sensed.ensures.sensed

same_blocks : (c : goal.After-changes_through) → c.pass-sensed.new.self.network.blocks ≡ c.args.self.now.network.blocks
same_blocks c =
    ap (λ (r : RailwayState). r.network.blocks) (ran c) ∙ run_through-blocks (power_of c) c.args.world.now.nodes c.args.micros (laid_in c.args.world.now.nodes c.args.self.now)

pub returns-clause-reports : goal.returns-clause-reports
returns-clause-reports c =
    let old = c.args.self.now in
    let sensed = is_sensed_in old c.args.micros (power_of c) c.args.world.now.nodes in
    c.changes_through.ensures.reports (is_sensed old) sensed c.sensed-before.ensures (subst (λ (blocks : List Block). AreBlocksMarked blocks sensed c.pass-sensed.result) (sym (same_blocks c)) (found c))
    ∙ ap (λ (blocks : List Block). changes_through blocks (is_sensed old) sensed (is_sensed c.pass-sensed.new.self)) (same_blocks c)
    ∙ ap (λ (r : RailwayState). changes_through old.network.blocks (is_sensed old) sensed (is_sensed r)) (ran c)
