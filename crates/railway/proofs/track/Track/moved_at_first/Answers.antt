use Rattle.std.proofs.Common.{◌≡◌, ℕ, Bool, refl, ap, sym, ◌∙◌, arith}
use Rattle.railway.specs.declared.block.BlockEnd.{BlockEnd}
use Rattle.railway.specs.Network.{first_at}
use Rattle.railway.specs.Turnouts.{is_moved_end}
use Rattle.railway.proofs.Throwing.{first-ends, first-found, first-goes, first-zero}
use Rattle.railway.proofs.track.Track.moved_at_first.Goals as goal

pub returns-then-leaves_at_moved : goal.returns-then-leaves_at_moved
returns-then-leaves_at_moved c =
    let n = c.args.self.now in
    sym (first-found (is_moved_end c.args.world.now.nodes n.turnouts) n c.loop-left.place c.loop-left.left (omega arith) (sym c.leaves_at_moved.ensures ∙ c.if-leaves_at_moved.true))
    ∙ c.loop-left.invariant.leads

pub loop-left-preserved : goal.loop-left-preserved
loop-left-preserved c =
    let n = c.args.self.now in
    record {
      leads = sym (first-goes (is_moved_end c.args.world.now.nodes n.turnouts) n c.loop-left.place c.in_ok-place.field-0-0 c.loop-left.left c.in_ok-place.field-0-1
          (sym c.leaves_at_moved.ensures ∙ c.if-leaves_at_moved.false) c.in_ok-place.ensures.goes)
          ∙ c.loop-left.invariant.leads;
      on_track = c.in_ok-place.ensures.on_track;
    }

pub returns-in_err-place : goal.returns-in_err-place
returns-in_err-place c =
    let n = c.args.self.now in
    c.from_residual.ensures
    ∙ sym (first-ends (is_moved_end c.args.world.now.nodes n.turnouts) n c.loop-left.place c.loop-left.left (sym c.leaves_at_moved.ensures ∙ c.if-leaves_at_moved.false) (c.in_err-place.ensures.ends refl))
    ∙ c.loop-left.invariant.leads

-- nothing is left of the way
pub returns : goal.returns
returns c =
    let n = c.args.self.now in
    let is : BlockEnd → Bool = is_moved_end c.args.world.now.nodes n.turnouts in
    let none : c.loop-left.left ≡ 0 = omega arith in
    sym (first-zero is n c.loop-left.place) ∙ sym (ap (λ (way : ℕ). first_at is n c.loop-left.place way) none) ∙ c.loop-left.invariant.leads
