use Rattle.std.proofs.Common.{◌≡◌, List, map, ap, subst, sym, ◌∙◌}
use Rattle.std.specs.Prelude.{IsTrue}
use Rattle.railway.specs.declared.joint.TurnoutState.{TurnoutState}
use Rattle.railway.specs.Failures.{failing_by}
use Rattle.railway.specs.Network.{Network, is_sound}
use Rattle.railway.proofs.Faulty.{failing-sound}
use Rattle.railway.proofs.track.Track.set_failing.Goals as goal

pub invariant_of-self : goal.invariant_of-self
invariant_of-self c =
    let switch = c.args.switch in
    let old : Network = record { blocks = c.self.inside.blocks.items; joints = c.self.inside.joints.items; turnouts = c.self.inside.turnouts.items } in
    let set : c.failing_by-self-inside.result.items ≡ map (failing_by switch) c.self.inside.turnouts.items = c.failing_by-self-inside.ensures ∙ ap (λ (n : Network). map (failing_by switch) n.turnouts) (sym c.self.view_is) in
    subst (λ (states : List TurnoutState). IsTrue (is_sound (record old { turnouts = states }))) (sym set) (failing-sound old switch c.self.invariant)
