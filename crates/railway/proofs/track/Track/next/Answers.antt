use Rattle.std.proofs.Common.{◌≡◌, List, Option, Some, length, ap, sym, subst, ◌∙◌}
use Rattle.std.specs.Prelude.{IfSome, IsTrue}
use Rattle.railway.specs.declared.block.BlockEnd.{BlockEnd}
use Rattle.railway.specs.declared.joint.Joint.{Joint}
use Rattle.railway.specs.declared.joint.TurnoutState.{TurnoutState}
use Rattle.railway.specs.Network.{is_sound, joined, joints_of, partner}
use Rattle.railway.proofs.Leading.{IsOf, joined-of, partner-first, partner-second}
use Rattle.railway.proofs.track.Track.next.Goals as goal

-- The first joint that has the end leads to an end of the plan.

over_joint : (c : goal.In-Some) → Some c.in-Some.next ≡ partner (joined c.args.self.now) c.args.end
over_joint c =
    let found = ap (λ (joints : List Joint). partner joints c.args.end) (sym c.as_slice.ensures.value) ∙ sym c.over_joints.ensures ∙ c.in-Some.is in
    rw (← c.self.view_is) (sym (partner-first c.self.inside.joints.items (joints_of c.self.inside.turnouts.items) c.args.end c.in-Some.next found))

pub returns-in-Some-clause-next : goal.returns-in-Some-clause-next
returns-in-Some-clause-next c = over_joint c

pub returns-in-Some-clause-of_plan : goal.returns-in-Some-clause-of_plan
returns-in-Some-clause-of_plan c =
    let sound : IsTrue (is_sound c.args.self.now) = rw (← c.self.view_is) c.self.invariant in
    subst (λ (o : Option BlockEnd). IfSome o (IsOf (length c.args.self.now.blocks))) (sym (over_joint c)) (joined-of c.args.self.now c.args.end sound)

-- So does a turnout, if no joint has it.

over_turnout : (c : goal.After-over_turnouts) → c.over_turnouts.result ≡ partner (joined c.args.self.now) c.args.end
over_turnout c =
    let none = ap (λ (joints : List Joint). partner joints c.args.end) (sym c.as_slice.ensures.value) ∙ sym c.over_joints.ensures ∙ c.in-None.is in
    rw (← c.self.view_is) (c.over_turnouts.ensures
    ∙ ap (λ (states : List TurnoutState). partner (joints_of states) c.args.end) c.as_slice-in-None.ensures.value
    ∙ sym (partner-second c.self.inside.joints.items (joints_of c.self.inside.turnouts.items) c.args.end none))

pub returns-in-None-clause-next : goal.returns-in-None-clause-next
returns-in-None-clause-next c = over_turnout c

pub returns-in-None-clause-of_plan : goal.returns-in-None-clause-of_plan
returns-in-None-clause-of_plan c =
    let sound : IsTrue (is_sound c.args.self.now) = rw (← c.self.view_is) c.self.invariant in
    subst (λ (o : Option BlockEnd). IfSome o (IsOf (length c.args.self.now.blocks))) (sym (over_turnout c)) (joined-of c.args.self.now c.args.end sound)
