use Rattle.std.proofs.Common.{◌≡◌, Bool, List, None, ap, ◌∙◌}
use Rattle.std.specs.Prelude.{IsTrue, if◌then◌else◌}
use Rattle.layout_core.specs.declared.node.Node.{Node}
use Rattle.railway.specs.declared.joint.TurnoutState.{TurnoutState}
use Rattle.railway.specs.Failures.{failing_by}
use Rattle.railway.specs.Turnouts.{asked, observed, outputs_in, pair_of, seen_of, side_of}
use Rattle.railway.proofs.Throwing.{asked-same, unchanged-observed}
use Rattle.railway.proofs.laws.failing_turnouts_stay.Goals as goal

stays : (state : TurnoutState) (nodes : List Node) → IsTrue state.fails → observed nodes state ≡ record state { outputs = seen_of state.outputs (outputs_in nodes state.decoder) }
stays state nodes h =
    let found = outputs_in nodes state.decoder in
    ap (λ (fails : Bool). record (asked (if fails then state.is_thrown else side_of state.outputs found (pair_of state.turnout.switch) state.is_thrown) state) { outputs = seen_of state.outputs found }) h
    ∙ ap (λ (same : TurnoutState). record same { outputs = seen_of state.outputs found }) (asked-same state)

pub returns : goal.returns
returns c = record { stays = stays; ends = λ state nodes h. unchanged-observed nodes (failing_by None state) h }
