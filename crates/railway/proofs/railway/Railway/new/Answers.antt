use Rattle.std.proofs.Common.{◌≡◌, ◌≤◌, List, None, length, map, true, ap, subst, sym, ◌∙◌}
use Rattle.std.proofs.lemmas.Bool.{and_from}
use Rattle.std.specs.List.{list_all}
use Rattle.std.specs.Prelude.{IsTrue}
use Rattle.decoder_node.specs.declared.node.NodeSpec.{NodeSpec}
use Rattle.railway.specs.declared.joint.Turnout.{Turnout}
use Rattle.railway.specs.declared.joint.TurnoutState.{TurnoutState}
use Rattle.railway.specs.declared.plan.Plan.{Plan}
use Rattle.railway.specs.declared.train.Train.{Train}
use Rattle.railway.specs.declared.train.TrainState.{TrainState}
use Rattle.railway.specs.Faults.{fault_of_all_trains, fault_of_track, fault_of_trains}
use Rattle.railway.specs.Network.{Network, is_sound}
use Rattle.railway.specs.Railway.{is_train}
use Rattle.railway.specs.Turnouts.{network_of, state_of_turnout}
use Rattle.railway.proofs.Planning.{or-none, planned-sound, sound_trains, trains_in_blocks}
use Rattle.railway.specs.Passing.{fault_of_speeds, shortest}
use Rattle.railway.proofs.Speeds.{all-slow}
use Rattle.railway.proofs.railway.Railway.new.Goals as goal

-- The track has no fault, and its turnouts are those of the definition.

sound_track : (specs : List NodeSpec) (plan : Plan) (states : List TurnoutState) → length plan.blocks.items ≤ 64 → length plan.turnouts.items ≤ 64 → fault_of_track specs plan ≡ None → states ≡ map (state_of_turnout specs) plan.turnouts.items
    → IsTrue (is_sound (record (network_of specs plan) { turnouts = states }))
sound_track specs plan states few_blocks few_turnouts none same =
    subst (λ (ts : List TurnoutState). IsTrue (is_sound (record (network_of specs plan) { turnouts = ts }))) (sym same) (planned-sound specs plan few_blocks few_turnouts none)

pub invariant_of-track : goal.invariant_of-track
invariant_of-track c =
    let specs = c.as_slice-decoders.result.now in
    sound_track specs c.args.plan c.turnout_states-turnouts.result.items c.fault_of_track.ensures.few
    (subst (λ (ts : List Turnout). length ts ≤ 64) c.as_slice.ensures.value c.as_slice.ensures.fits) (sym c.fault_of_track.ensures.fault ∙ c.in-None.is)
    (c.turnout_states-turnouts.ensures ∙ ap (λ (ts : List Turnout). map (state_of_turnout specs) ts) c.as_slice.ensures.value)

-- Its trains have none there.

pub train_states-trains-requires-clause-in_blocks : goal.train_states-trains-requires-clause-in_blocks
train_states-trains-requires-clause-in_blocks c =
    let specs = c.as_slice-decoders.result.now in
    let n : Network = record (network_of specs c.args.plan) { turnouts = c.turnout_states-turnouts.result.items } in
    let all : fault_of_all_trains specs n c.as_slice-3.result.now ≡ None =
    ap (λ (ts : List Train). fault_of_all_trains specs n ts) (c.as_slice-3.ensures.value ∙ sym c.as_slice-2.ensures.value) ∙ sym c.fault_of_all_trains.ensures ∙ c.in-None-fault_of_all_trains.is in
    let none = (or-none (fault_of_trains specs n 0 c.as_slice-3.result.now) _ all).0 in
    trains_in_blocks specs n 0 c.as_slice-3.result.now none

pub invariant_of-result : goal.invariant_of-result
invariant_of-result c =
    let specs = c.as_slice-decoders.result.now in
    let n : Network = record (network_of specs c.args.plan) { turnouts = c.turnout_states-turnouts.result.items } in
    let all : fault_of_all_trains specs n c.as_slice-3.result.now ≡ None =
    ap (λ (ts : List Train). fault_of_all_trains specs n ts) (c.as_slice-3.ensures.value ∙ sym c.as_slice-2.ensures.value) ∙ sym c.fault_of_all_trains.ensures ∙ c.in-None-fault_of_all_trains.is in
    let none = or-none (fault_of_trains specs n 0 c.as_slice-3.result.now) (fault_of_speeds (shortest None n.blocks) 0 c.as_slice-3.result.now) all in
    let sound : IsTrue (is_sound n) =
    sound_track specs c.args.plan c.turnout_states-turnouts.result.items c.fault_of_track.ensures.few
    (subst (λ (ts : List Turnout). length ts ≤ 64) c.as_slice.ensures.value c.as_slice.ensures.fits) (sym c.fault_of_track.ensures.fault ∙ c.in-None.is)
    (c.turnout_states-turnouts.ensures ∙ ap (λ (ts : List Turnout). map (state_of_turnout specs) ts) c.as_slice.ensures.value) in
    and_from (is_sound n) (list_all (is_train n) c.train_states-trains.result.items) sound
    (subst (λ (ts : List TrainState). list_all (is_train n) ts ≡ true) (sym c.train_states-trains.ensures) (sound_trains specs n 0 c.as_slice-3.result.now sound none.0 (all-slow n.blocks c.as_slice-3.result.now none.1)))
