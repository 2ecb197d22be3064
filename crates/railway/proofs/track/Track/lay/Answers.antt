use Rattle.std.proofs.Common.{◌≡◌, List, map, ap, subst, sym, ◌∙◌}
use Rattle.std.specs.Prelude.{IsTrue}
use Rattle.railway.specs.declared.joint.TurnoutState.{TurnoutState}
use Rattle.railway.specs.Network.{Network, is_sound}
use Rattle.railway.specs.Turnouts.{observed}
use Rattle.railway.proofs.Leading.{laid-sound}
use Rattle.railway.proofs.track.Track.lay.Goals as goal

pub invariant_of-self : goal.invariant_of-self
invariant_of-self c =
    let nodes = c.args.world.now.nodes in
    let old : Network = record { blocks = c.self.inside.blocks.items; joints = c.self.inside.joints.items; turnouts = c.self.inside.turnouts.items } in
    let laid_out : c.observed-self-inside.result.items ≡ map (observed nodes) c.self.inside.turnouts.items = c.observed-self-inside.ensures ∙ ap (λ (n : Network). map (observed nodes) n.turnouts) (sym c.self.view_is) in
    subst (λ (states : List TurnoutState). IsTrue (is_sound (record old { turnouts = states }))) (sym laid_out) (laid-sound nodes old c.self.invariant)
