use Rattle.std.proofs.Common.{◌≡◌, ℕ, ◌<◌, ◌-◌, ◌||◌, Bool, List, false, length, refl, ap, subst, sym, ◌∙◌, arith}
use Rattle.std.specs.List.{slice_index_or}
use Rattle.refresh_ring.specs.declared.pick.Power.{Power}
use Rattle.railway.specs.declared.block.Block.{Block}
use Rattle.railway.specs.Railway.{RailwayState, is_sensed, is_sensed_through, run_through}
use Rattle.railway.proofs.Facts.{or-right-true}
use Rattle.railway.proofs.Pieces.{run_through-blocks, run_through-rest, run_through-zero}
use Rattle.railway.proofs.Sensing.{all-added, piece-added, start-found}
use Rattle.railway.proofs.railway.Railway.pass.Goals as goal

pub loop-left-init : goal.loop-left-init
loop-left-init c =
    let power = c.args.world.now.station.powered.power in
    let nodes = c.args.world.now.nodes in
    record {
      railway = refl;
      blocks = refl;
      found = λ block small within. start-found power nodes c.args.micros c.args.self.now block (slice_index_or c.sensed-sensed.result block false) (c.sensed-sensed.ensures block small);
      now = λ block small here. c.sensed-sensed.ensures block small ∙ here;
    }

-- the power of the track
abbrev power_of : goal.After-union-sensed → Power
power_of c = c.args.world.now.station.powered.power

-- the blocks stay
same_blocks : (c : goal.After-union-sensed) → c.pass_piece.new.self.network.blocks ≡ c.args.self.now.network.blocks
same_blocks c =
    ap (λ (r : RailwayState). r.network.blocks) c.pass_piece.ensures
    ∙ run_through-blocks (power_of c) c.args.world.now.nodes c.piece-piece.result c.loop-left.self ∙ c.loop-left.invariant.blocks

-- what was found before, and now
marked : (c : goal.After-union-sensed) (block : ℕ) → block < 64 → slice_index_or c.union-sensed.result block false ≡ (slice_index_or c.loop-left.sensed block false || is_sensed c.pass_piece.new.self block)
marked c block small =
    c.union-sensed.ensures block small ∙ ap (λ (b : Bool). slice_index_or c.loop-left.sensed block false || b) (c.sensed-now.ensures block small)

pub loop-left-preserved : goal.loop-left-preserved
loop-left-preserved c =
    let power = power_of c in
    let nodes = c.args.world.now.nodes in
    let piece = c.piece-piece.result in
    let left = c.loop-left.left in
    let rest : ℕ = left - piece in
    let before = c.loop-left.self in
    let at = c.loop-left.invariant in
    record {
      railway = ap (λ (r : RailwayState). run_through power rest nodes r) c.pass_piece.ensures ∙ run_through-rest power nodes piece left before c.piece-piece.ensures.part ∙ at.railway;
      blocks = same_blocks c;
      found = λ block small within.
          let all : Bool = is_sensed_through power c.args.micros nodes c.args.self.now block in
          let was : Bool = slice_index_or c.loop-left.sensed block false in
          let of_plan : block < length before.network.blocks = subst (λ (blocks : List Block). block < length blocks) (sym at.blocks) within in
          let added = piece-added power nodes piece left before block was all c.piece-piece.ensures.part (c.piece-piece.ensures.seen block of_plan) (at.found block small within) (at.now block small) in
          ap (λ (b : Bool). b || is_sensed_through power rest nodes c.pass_piece.new.self block) (marked c block small)
          ∙ ap (λ (r : RailwayState). (was || is_sensed r block) || is_sensed_through power rest nodes r block) c.pass_piece.ensures ∙ added;
      now = λ block small here. marked c block small ∙ or-right-true (slice_index_or c.loop-left.sensed block false) (is_sensed c.pass_piece.new.self block) here;
    }

-- nothing is left of the time
pub returns-clause-railway : goal.returns-clause-railway
returns-clause-railway c =
    let power = c.args.world.now.station.powered.power in
    let nodes = c.args.world.now.nodes in
    let none : c.loop-left.left ≡ 0 = omega arith in
    sym (run_through-zero power nodes c.loop-left.self) ∙ sym (ap (λ (k : ℕ). run_through power k nodes c.loop-left.self) none) ∙ c.loop-left.invariant.railway

pub returns-clause-sensed : goal.returns-clause-sensed
returns-clause-sensed c block small within =
    let power = c.args.world.now.station.powered.power in
    let nodes = c.args.world.now.nodes in
    let none : c.loop-left.left ≡ 0 = omega arith in
    let was : Bool = slice_index_or c.loop-left.sensed block false in
    all-added power nodes c.loop-left.self block was (is_sensed_through power c.args.micros nodes c.args.self.now block)
    (ap (λ (k : ℕ). was || is_sensed_through power k nodes c.loop-left.self block) (sym none) ∙ c.loop-left.invariant.found block small within) (c.loop-left.invariant.now block small)
