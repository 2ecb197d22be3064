-- What is joined is joined both ways.
use Rattle.std.proofs.Common.{◌≡◌, ℕ, ◌++◌, ◌&&◌, Bool, true, false, not, inl, inr, List, [], ◌∷◌, Option, Some, None, refl, ap, sym, subst, ◌∙◌}
use Rattle.std.proofs.lemmas.Bool.{and_from, and_parts, both_ways, cases_Bool, eq-eqb, eqb-true, not-true}
use Rattle.std.specs.Option.{option_or}
use Rattle.std.specs.Prelude.{if◌then◌else◌, nat_eq}
use Rattle.railway.specs.declared.block.BlockEnd.{BlockEnd}
use Rattle.railway.specs.declared.block.End.{End}
use Rattle.railway.specs.declared.block.End.TheVariants.{A, B}
use Rattle.railway.specs.declared.joint.Joint.{Joint}
use Rattle.railway.specs.declared.joint.TurnoutState.{TurnoutState}
use Rattle.railway.specs.Blocks.{same_block_end, same_end}
use Rattle.railway.specs.Ends.{are_apart, ends_of, ends_of_joints, ends_of_turnouts, has_end}
use Rattle.railway.specs.Network.{Network, across, as_joint, is_moving, joined, joints_of, partner, turnouts_of}
use Rattle.railway.proofs.Facts.{or-left, or-right, or-right-true, or-left-true, or-none, not-from}

-- The same end is an equal one.

pub same_end-true : (one two : End) → same_end one two ≡ true → one ≡ two
same_end-true A A h = refl
same_end-true A B h = cc
same_end-true B A h = cc
same_end-true B B h = refl

pub same_end-self : (end : End) → same_end end end ≡ true
same_end-self A = refl
same_end-self B = refl

pub same-true : (one two : BlockEnd) → same_block_end one two ≡ true → one ≡ two
same-true one two h =
    let parts = and_parts (nat_eq one.block two.block) (same_end one.end two.end) h in
    ap (λ (b : ℕ). record one { block = b }) (eqb-true one.block two.block parts.0) ∙ ap (λ (e : End). record two { end = e }) (same_end-true one.end two.end parts.1)

pub same-self : (end : BlockEnd) → same_block_end end end ≡ true
same-self end = and_from (nat_eq end.block end.block) (same_end end.end end.end) (eq-eqb end.block end.block refl) (same_end-self end.end)

-- an end that is not among these is none of them
apart-from : (end other : BlockEnd) (ends : List BlockEnd) → has_end end ends ≡ false → has_end other ends ≡ true → same_block_end end other ≡ false
apart-from end other ends none has = elim (cases_Bool (same_block_end end other)) [
  | inl same ↦ absurd (both_ways (has_end end ends) none (subst (λ (e : BlockEnd). has_end e ends ≡ true) (sym (same-true end other same)) has))
  | inr different ↦ different
]

-- Joints.

across-one : (joint : Joint) (end : BlockEnd) → same_block_end joint.one end ≡ true → across joint end ≡ Some joint.two
across-one joint end h = ap (λ (b : Bool). if b then Some joint.two else (if same_block_end joint.two end then Some joint.one else None)) h

across-two : (joint : Joint) (end : BlockEnd) → same_block_end joint.one end ≡ false → same_block_end joint.two end ≡ true → across joint end ≡ Some joint.one
across-two joint end h g =
    ap (λ (b : Bool). if b then Some joint.two else (if same_block_end joint.two end then Some joint.one else None)) h
    ∙ ap (λ (b : Bool). if b then Some joint.one else None) g

pub across-none : (joint : Joint) (end : BlockEnd) → same_block_end joint.one end ≡ false → same_block_end joint.two end ≡ false → across joint end ≡ None
across-none joint end h g =
    ap (λ (b : Bool). if b then Some joint.two else (if same_block_end joint.two end then Some joint.one else None)) h
    ∙ ap (λ (b : Bool). if b then Some joint.one else None) g

some-same : (one two : BlockEnd) → Some one ≡ Some two → one ≡ two
some-same one two h = cc

first-found : (leads rest : Option BlockEnd) (next : BlockEnd) → leads ≡ Some next → option_or leads rest ≡ Some next
first-found leads rest next h = ap (λ (o : Option BlockEnd). option_or o rest) h

pub rest-found : (leads rest : Option BlockEnd) → leads ≡ None → option_or leads rest ≡ rest
rest-found leads rest h = ap (λ (o : Option BlockEnd). option_or o rest) h

-- an end to which joints lead is one of theirs
partner-has : (joints : List Joint) (end next : BlockEnd) → partner joints end ≡ Some next → has_end next (ends_of_joints joints) ≡ true
partner-has [] end next h = cc
partner-has (joint ∷ joints) end next h = elim (cases_Bool (same_block_end joint.one end)) [
  | inl one ↦
      let is : joint.two ≡ next = some-same joint.two next (sym (first-found (across joint end) (partner joints end) joint.two (across-one joint end one)) ∙ h) in
      or-right-true (same_block_end next joint.one) _ (or-left-true (same_block_end next joint.two) _ (subst (λ (e : BlockEnd). same_block_end next e ≡ true) (sym is) (same-self next)))
  | inr not_one ↦ elim (cases_Bool (same_block_end joint.two end)) [
    | inl two ↦
        let is : joint.one ≡ next = some-same joint.one next (sym (first-found (across joint end) (partner joints end) joint.one (across-two joint end not_one two)) ∙ h) in
        or-left-true (same_block_end next joint.one) _ (subst (λ (e : BlockEnd). same_block_end next e ≡ true) (sym is) (same-self next))
    | inr not_two ↦
        let rest = partner-has joints end next (sym (rest-found (across joint end) (partner joints end) (across-none joint end not_one not_two)) ∙ h) in
        or-right-true (same_block_end next joint.one) _ (or-right-true (same_block_end next joint.two) _ rest)
  ]
]

pub partner-back : (joints : List Joint) (end next : BlockEnd) → are_apart (ends_of_joints joints) ≡ true → partner joints end ≡ Some next → partner joints next ≡ Some end
partner-back [] end next apart h = cc
partner-back (joint ∷ joints) end next apart h =
    let rest : List BlockEnd = ends_of_joints joints in
    let outer = and_parts (not (has_end joint.one (joint.two ∷ rest))) (not (has_end joint.two rest) && are_apart rest) apart in
    let inner = and_parts (not (has_end joint.two rest)) (are_apart rest) outer.1 in
    let first : has_end joint.one (joint.two ∷ rest) ≡ false = not-true _ outer.0 in
    let second : has_end joint.two rest ≡ false = not-true _ inner.0 in
    let one-two : same_block_end joint.one joint.two ≡ false = or-left _ (has_end joint.one rest) first in
    let one-rest : has_end joint.one rest ≡ false = or-right (same_block_end joint.one joint.two) _ first in
    elim (cases_Bool (same_block_end joint.one end)) [
      | inl one ↦
          let is : joint.two ≡ next = some-same joint.two next (sym (first-found (across joint end) (partner joints end) joint.two (across-one joint end one)) ∙ h) in
          let from : joint.one ≡ end = same-true joint.one end one in
          subst (λ (e : BlockEnd). partner (joint ∷ joints) e ≡ Some end) is
          (subst (λ (e : BlockEnd). partner (joint ∷ joints) joint.two ≡ Some e) from
          (first-found (across joint joint.two) (partner joints joint.two) joint.one (across-two joint joint.two one-two (same-self joint.two))))
      | inr not_one ↦ elim (cases_Bool (same_block_end joint.two end)) [
        | inl two ↦
            let is : joint.one ≡ next = some-same joint.one next (sym (first-found (across joint end) (partner joints end) joint.one (across-two joint end not_one two)) ∙ h) in
            let from : joint.two ≡ end = same-true joint.two end two in
            subst (λ (e : BlockEnd). partner (joint ∷ joints) e ≡ Some end) is
            (subst (λ (e : BlockEnd). partner (joint ∷ joints) joint.one ≡ Some e) from
            (first-found (across joint joint.one) (partner joints joint.one) joint.two (across-one joint joint.one (same-self joint.one))))
        | inr not_two ↦
            let there : partner joints end ≡ Some next = sym (rest-found (across joint end) (partner joints end) (across-none joint end not_one not_two)) ∙ h in
            let has = partner-has joints end next there in
            rest-found (across joint next) (partner joints next) (across-none joint next (apart-from joint.one next rest one-rest has) (apart-from joint.two next rest second has))
            ∙ partner-back joints end next inner.1 there
      ]
    ]

-- The ends that are joined, as the turnouts lie, are among those that the plan names.

ends-append : (these those : List Joint) → ends_of_joints (these ++ those) ≡ ends_of_joints these ++ ends_of_joints those
ends-append [] those = refl
ends-append (joint ∷ these) those = ap (λ (ends : List BlockEnd). joint.one ∷ joint.two ∷ ends) (ends-append these those)

pub has-append : (end : BlockEnd) (these those : List BlockEnd) → has_end end (these ++ those) ≡ false → (has_end end these ≡ false) × (has_end end those ≡ false)
has-append end [] those h = (refl, h)
has-append end (other ∷ these) those h =
    let rest = has-append end these those (or-right (same_block_end end other) _ h) in
    (or-none (same_block_end end other) (has_end end these) (or-left (same_block_end end other) _ h) rest.0, rest.1)

append-has : (end : BlockEnd) (these those : List BlockEnd) → has_end end these ≡ false → has_end end those ≡ false → has_end end (these ++ those) ≡ false
append-has end [] those h g = g
append-has end (other ∷ these) those h g =
    or-none (same_block_end end other) (has_end end (these ++ those)) (or-left (same_block_end end other) _ h) (append-has end these those (or-right (same_block_end end other) _ h) g)

-- the end is not among fewer ends
abbrev pub IsPart : (fewer ends : List BlockEnd) → Type 0
IsPart fewer ends = (end : BlockEnd) → has_end end ends ≡ false → has_end end fewer ≡ false

apart-part : (these ends fewer : List BlockEnd) → are_apart (these ++ ends) ≡ true → IsPart fewer ends → are_apart fewer ≡ true → are_apart (these ++ fewer) ≡ true
apart-part [] ends fewer h part apart = apart
apart-part (end ∷ these) ends fewer h part apart =
    let parts = and_parts (not (has_end end (these ++ ends))) (are_apart (these ++ ends)) h in
    let none = has-append end these ends (not-true _ parts.0) in
    and_from (not (has_end end (these ++ fewer))) (are_apart (these ++ fewer)) (not-from _ (append-has end these fewer none.0 (part end none.1)))
    (apart-part these ends fewer parts.1 part apart)

-- the ends of turnouts as they lie
abbrev pub lying : List TurnoutState → List BlockEnd
lying states = ends_of_joints (joints_of states)

branch-not : (b : Bool) (end thrown closed : BlockEnd) → same_block_end end closed ≡ false → same_block_end end thrown ≡ false → same_block_end end (if b then thrown else closed) ≡ false
branch-not true end thrown closed h g = g
branch-not false end thrown closed h g = h

-- what holds without a turnout that moves, and with one that lies
pub by-moving : (P : List Joint → Type 0) (state : TurnoutState) (states : List TurnoutState) → P (joints_of states) → P (as_joint state ∷ joints_of states) → P (joints_of (state ∷ states))
by-moving P state states moves lies = chosen (is_moving state) where
  chosen : (b : Bool) → P (if b then joints_of states else as_joint state ∷ joints_of states)
  chosen true = moves
  chosen false = lies

pub lying-part : (states : List TurnoutState) → IsPart (lying states) (ends_of_turnouts (turnouts_of states))
lying-part [] end h = refl
lying-part (state ∷ states) end h =
    let turnout = state.turnout in
    let after-common = or-right (same_block_end end turnout.common) _ h in
    let after-closed = or-right (same_block_end end turnout.closed) _ after-common in
    let after-thrown = or-right (same_block_end end turnout.thrown) _ after-closed in
    by-moving (λ (joints : List Joint). has_end end (ends_of_joints joints) ≡ false) state states (lying-part states end after-thrown)
    (or-none (same_block_end end turnout.common) _ (or-left (same_block_end end turnout.common) _ h)
    (or-none (same_block_end end (as_joint state).two) (has_end end (lying states))
    (branch-not state.is_thrown end turnout.thrown turnout.closed (or-left (same_block_end end turnout.closed) _ after-common) (or-left (same_block_end end turnout.thrown) _ after-closed))
    (lying-part states end after-thrown)))

branch-has : (b : Bool) (thrown closed : BlockEnd) (ends : List BlockEnd) → has_end thrown ends ≡ false → has_end closed ends ≡ false → has_end (if b then thrown else closed) ends ≡ false
branch-has true thrown closed ends h g = h
branch-has false thrown closed ends h g = g

lying-apart : (states : List TurnoutState) → are_apart (ends_of_turnouts (turnouts_of states)) ≡ true → are_apart (lying states) ≡ true
lying-apart [] h = refl
lying-apart (state ∷ states) h =
    let turnout = state.turnout in
    let rest : List BlockEnd = ends_of_turnouts (turnouts_of states) in
    let one = and_parts (not (has_end turnout.common (turnout.closed ∷ turnout.thrown ∷ rest))) _ h in
    let two = and_parts (not (has_end turnout.closed (turnout.thrown ∷ rest))) _ one.1 in
    let three = and_parts (not (has_end turnout.thrown rest)) (are_apart rest) two.1 in
    let common : has_end turnout.common (turnout.closed ∷ turnout.thrown ∷ rest) ≡ false = not-true _ one.0 in
    let past-closed = or-right (same_block_end turnout.common turnout.closed) _ common in
    let past-thrown = or-right (same_block_end turnout.common turnout.thrown) _ past-closed in
    let closed : has_end turnout.closed rest ≡ false = or-right (same_block_end turnout.closed turnout.thrown) _ (not-true _ two.0) in
    let thrown : has_end turnout.thrown rest ≡ false = not-true _ three.0 in
    let branch : BlockEnd = (as_joint state).two in
    by-moving (λ (joints : List Joint). are_apart (ends_of_joints joints) ≡ true) state states (lying-apart states three.1)
    (and_from (not (has_end turnout.common (branch ∷ lying states))) (not (has_end branch (lying states)) && are_apart (lying states))
    (not-from _ (or-none (same_block_end turnout.common branch) (has_end turnout.common (lying states))
    (branch-not state.is_thrown turnout.common turnout.thrown turnout.closed (or-left (same_block_end turnout.common turnout.closed) _ common) (or-left (same_block_end turnout.common turnout.thrown) _ past-closed))
    (lying-part states turnout.common past-thrown)))
    (and_from (not (has_end branch (lying states))) (are_apart (lying states))
    (not-from _ (branch-has state.is_thrown turnout.thrown turnout.closed (lying states) (lying-part states turnout.thrown thrown) (lying-part states turnout.closed closed)))
    (lying-apart states three.1)))

pub apart-last : (these those : List BlockEnd) → are_apart (these ++ those) ≡ true → are_apart those ≡ true
apart-last [] those h = h
apart-last (end ∷ these) those h = apart-last these those (and_parts (not (has_end end (these ++ those))) (are_apart (these ++ those)) h).1

-- an end leads back to where it was led to
pub joined-back : (network : Network) (end next : BlockEnd) → are_apart (ends_of network.joints (turnouts_of network.turnouts)) ≡ true → partner (joined network) end ≡ Some next → partner (joined network) next ≡ Some end
joined-back network end next apart h =
    let joints : List BlockEnd = ends_of_joints network.joints in
    let turnouts : List BlockEnd = ends_of_turnouts (turnouts_of network.turnouts) in
    let all = apart-part joints turnouts (lying network.turnouts) apart (lying-part network.turnouts) (lying-apart network.turnouts (apart-last joints turnouts apart)) in
    partner-back (joined network) end next (subst (λ (ends : List BlockEnd). are_apart ends ≡ true) (sym (ends-append network.joints (joints_of network.turnouts))) all) h
