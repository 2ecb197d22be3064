-- Where joints and turnouts lead.
use Rattle.std.proofs.Common.{◌≡◌, ◌++◌, ℕ, ◌<◌, ◌≤◌, ◌&&◌, true, Bool, List, [], ◌∷◌, Option, Some, None, length, map, refl, ap, sym, subst, ◌∙◌}
use Rattle.std.proofs.lemmas.Bool.{and_from, and_parts, cond_both, leb-true, ltb-true}
use Rattle.std.proofs.lemmas.List.{length-map}
use Rattle.std.specs.List.{list_all}
use Rattle.std.specs.Option.{option_or}
use Rattle.std.specs.Prelude.{IfSome, IsTrue, nat_le, nat_lt}
use Rattle.layout_core.specs.declared.node.Node.{Node}
use Rattle.railway.specs.declared.block.BlockEnd.{BlockEnd}
use Rattle.railway.specs.declared.joint.Joint.{Joint}
use Rattle.railway.specs.declared.joint.Turnout.{Turnout}
use Rattle.railway.specs.declared.joint.TurnoutState.{TurnoutState}
use Rattle.railway.specs.Blocks.{are_distinct, is_block, same_block_end}
use Rattle.railway.specs.Ends.{are_apart, ends_of, is_end, is_joint, is_turnout}
use Rattle.railway.specs.Network.{Network, across, are_few, as_joint, is_sound, joined, joints_of, partner, turnouts_of}
use Rattle.railway.specs.Turnouts.{advanced, moved_on, laid, observed}
use Rattle.railway.proofs.Joining.{by-moving}

or_assoc : (first all one two : Option BlockEnd) → all ≡ option_or one two → option_or first all ≡ option_or (option_or first one) two
or_assoc None all one two h = h
or_assoc (Some next) all one two h = refl

pub partner-append : (these those : List Joint) (end : BlockEnd) → partner (these ++ those) end ≡ option_or (partner these end) (partner those end)
partner-append [] those end = refl
partner-append (joint ∷ these) those end = or_assoc (across joint end) (partner (these ++ those) end) (partner these end) (partner those end) (partner-append these those end)

pub partner-first : (these those : List Joint) (end next : BlockEnd) → partner these end ≡ Some next → partner (these ++ those) end ≡ Some next
partner-first these those end next h = partner-append these those end ∙ ap (λ (o : Option BlockEnd). option_or o (partner those end)) h

pub partner-second : (these those : List Joint) (end : BlockEnd) → partner these end ≡ None → partner (these ++ those) end ≡ partner those end
partner-second these those end h = partner-append these those end ∙ ap (λ (o : Option BlockEnd). option_or o (partner those end)) h

-- an end of one of so many blocks
abbrev pub IsOf : ℕ → BlockEnd → Type 0
IsOf n end = end.block < n

of_either : (n : ℕ) (one two : Option BlockEnd) → IfSome one (IsOf n) → IfSome two (IsOf n) → IfSome (option_or one two) (IsOf n)
of_either n None two h g = g
of_either n (Some end) two h g = h

across-of : (n : ℕ) (joint : Joint) (end : BlockEnd) → is_joint n joint ≡ true → IfSome (across joint end) (IsOf n)
across-of n joint end h =
    let parts = and_parts (nat_lt joint.one.block n) (nat_lt joint.two.block n) h in
    cond_both (same_block_end joint.one end) (Some joint.two) _ (λ next. IfSome next (IsOf n)) (λ _. ltb-true joint.two.block n parts.1)
    (λ _. cond_both (same_block_end joint.two end) (Some joint.one) None (λ next. IfSome next (IsOf n)) (λ _. ltb-true joint.one.block n parts.0) (λ _. tt))

partner-of : (n : ℕ) (joints : List Joint) (end : BlockEnd) → list_all (is_joint n) joints ≡ true → IfSome (partner joints end) (IsOf n)
partner-of n [] end h = tt
partner-of n (joint ∷ joints) end h =
    let parts = and_parts (is_joint n joint) (list_all (is_joint n) joints) h in
    of_either n (across joint end) (partner joints end) (across-of n joint end parts.0) (partner-of n joints end parts.1)

as_joint-of : (n : ℕ) (state : TurnoutState) → is_turnout n state.turnout ≡ true → is_joint n (as_joint state) ≡ true
as_joint-of n state h =
    let turnout = state.turnout in
    let parts = and_parts (is_end n turnout.common && is_end n turnout.closed) (is_end n turnout.thrown) h in
    let first = and_parts (is_end n turnout.common) (is_end n turnout.closed) parts.0 in
    and_from (is_end n turnout.common) (is_end n (as_joint state).two) first.0
    (cond_both state.is_thrown turnout.thrown turnout.closed (λ end. is_end n end ≡ true) (λ _. parts.1) (λ _. first.1))

as_joints-of : (n : ℕ) (states : List TurnoutState) → list_all (is_turnout n) (turnouts_of states) ≡ true → list_all (is_joint n) (joints_of states) ≡ true
as_joints-of n [] h = refl
as_joints-of n (state ∷ states) h =
    let parts = and_parts (is_turnout n state.turnout) (list_all (is_turnout n) (turnouts_of states)) h in
    let rest = as_joints-of n states parts.1 in
    by-moving (λ (joints : List Joint). list_all (is_joint n) joints ≡ true) state states rest
    (and_from (is_joint n (as_joint state)) (list_all (is_joint n) (joints_of states)) (as_joint-of n state parts.0) rest)

-- What a sound network is.

pub record Sound (network : Network) : Type 0 where
  pub few : are_few network ≡ true
  pub lengths : list_all is_block network.blocks ≡ true
  pub sensors : are_distinct network.blocks ≡ true
  pub joints : list_all (is_joint (length network.blocks)) network.joints ≡ true
  pub turnouts : list_all (is_turnout (length network.blocks)) (turnouts_of network.turnouts) ≡ true
  pub apart : are_apart (ends_of network.joints (turnouts_of network.turnouts)) ≡ true

pub sound : (network : Network) → IsTrue (is_sound network) → Sound network
sound network h =
    let n = length network.blocks in
    let states = turnouts_of network.turnouts in
    let few : Bool = are_few network in
    let one : Bool = list_all is_block network.blocks in
    let two : Bool = are_distinct network.blocks in
    let three : Bool = list_all (is_joint n) network.joints in
    let four : Bool = list_all (is_turnout n) states in
    let last = and_parts (few && one && two && three && four) (are_apart (ends_of network.joints states)) h in
    let third = and_parts (few && one && two && three) four last.0 in
    let second = and_parts (few && one && two) three third.0 in
    let first = and_parts (few && one) two second.0 in
    let start = and_parts few one first.0 in
    record { few = start.0; lengths = start.1; sensors = first.1; joints = second.1; turnouts = third.1; apart = last.1 }

pub record Small (network : Network) : Type 0 where
  pub blocks : length network.blocks ≤ 64
  pub turnouts : length network.turnouts ≤ 64

pub small : (network : Network) → are_few network ≡ true → Small network
small network h =
    let parts = and_parts (nat_le (length network.blocks) 64) (nat_le (length network.turnouts) 64) h in
    record { blocks = leb-true (length network.blocks) 64 parts.0; turnouts = leb-true (length network.turnouts) 64 parts.1 }

append-all : (n : ℕ) (these those : List Joint) → list_all (is_joint n) these ≡ true → list_all (is_joint n) those ≡ true → list_all (is_joint n) (these ++ those) ≡ true
append-all n [] those h g = g
append-all n (joint ∷ these) those h g =
    let parts = and_parts (is_joint n joint) (list_all (is_joint n) these) h in
    and_from (is_joint n joint) (list_all (is_joint n) (these ++ those)) parts.0 (append-all n these those parts.1 g)

-- the track leads to blocks of the plan
pub joined-of : (network : Network) (end : BlockEnd) → IsTrue (is_sound network) → IfSome (partner (joined network) end) (IsOf (length network.blocks))
joined-of network end h =
    let is = sound network h in
    let n = length network.blocks in
    partner-of n (joined network) end (append-all n network.joints (joints_of network.turnouts) is.joints (as_joints-of n network.turnouts is.turnouts))

-- Turnouts that move stay the turnouts of the plan.

pub same-turnouts : (f : TurnoutState → TurnoutState) → ((state : TurnoutState) → (f state).turnout ≡ state.turnout) → (states : List TurnoutState) → turnouts_of (map f states) ≡ turnouts_of states
same-turnouts f keeps [] = refl
same-turnouts f keeps (state ∷ states) =
    ap (λ (turnout : Turnout). turnout ∷ turnouts_of (map f states)) (keeps state) ∙ ap (λ (turnouts : List Turnout). state.turnout ∷ turnouts) (same-turnouts f keeps states)

pub changed-sound : (f : TurnoutState → TurnoutState) → ((state : TurnoutState) → (f state).turnout ≡ state.turnout) → (network : Network) → IsTrue (is_sound network)
    → IsTrue (is_sound (record network { turnouts = map f network.turnouts }))
changed-sound f keeps network h =
    let n = length network.blocks in
    let rest : ℕ → List Turnout → Bool = λ count turnouts.
    nat_le n 64 && nat_le count 64 && list_all is_block network.blocks && are_distinct network.blocks && list_all (is_joint n) network.joints && list_all (is_turnout n) turnouts && are_apart (ends_of network.joints turnouts) in
    subst (λ (turnouts : List Turnout). IsTrue (rest (length (map f network.turnouts)) turnouts)) (sym (same-turnouts f keeps network.turnouts))
    (subst (λ (count : ℕ). IsTrue (rest count (turnouts_of network.turnouts))) (sym (length-map network.turnouts f)) h)

pub laid-sound : (nodes : List Node) (network : Network) → IsTrue (is_sound network) → IsTrue (is_sound (laid nodes network))
laid-sound nodes network h = changed-sound (observed nodes) (λ state. refl) network h

pub advanced-sound : (micros : ℕ) (network : Network) → IsTrue (is_sound network) → IsTrue (is_sound (advanced micros network))
advanced-sound micros network h = changed-sound (moved_on micros) (λ state. refl) network h
