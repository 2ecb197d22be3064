use Rattle.std.proofs.Common.{◌≡◌, List, false, ap, map, subst, sym, ◌∙◌}
use Rattle.std.specs.List.{list_any}
use Rattle.std.specs.Prelude.{IsTrue}
use Rattle.railway.specs.declared.joint.TurnoutState.{TurnoutState}
use Rattle.railway.specs.Network.{Network, is_moving, is_sound}
use Rattle.railway.specs.Turnouts.{moved_on}
use Rattle.railway.proofs.Leading.{advanced-sound}
use Rattle.railway.proofs.Switching.{lying-stay}
use Rattle.railway.proofs.track.Track.advance_moving.Goals as goal

pub invariant_of-self : goal.invariant_of-self
invariant_of-self c =
    let micros = c.args.micros in
    let old : Network = record { blocks = c.self.inside.blocks.items; joints = c.self.inside.joints.items; turnouts = c.self.inside.turnouts.items } in
    let went : c.advanced-self-inside.result.items ≡ map (moved_on micros) c.self.inside.turnouts.items = c.advanced-self-inside.ensures ∙ ap (λ (n : Network). map (moved_on micros) n.turnouts) (sym c.self.view_is) in
    subst (λ (states : List TurnoutState). IsTrue (is_sound (record old { turnouts = states }))) (sym went) (advanced-sound micros old c.self.invariant)

pub returns-else-is_moving : goal.returns-else-is_moving
returns-else-is_moving c =
    let n : Network = c.args.self.now in
    let none : list_any is_moving n.turnouts ≡ false = sym c.is_moving.ensures ∙ c.if-is_moving.false in
    ap (λ (states : List TurnoutState). record n { turnouts = states }) (sym (lying-stay c.args.micros n.turnouts none))
