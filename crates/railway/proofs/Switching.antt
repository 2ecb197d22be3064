-- Turnouts that move.
use Rattle.std.proofs.Common.{◌≡◌, ℕ, zero, suc, ◌+◌, ◌-◌, ◌<◌, ◌≤◌, ◌==◌, ◌++◌, ◌&&◌, ◌||◌, Bool, true, false, not, inl, inr, List, [], ◌∷◌, Option, Some, None, length, map, take, refl, ap, sym, subst, ◌∙◌, arith}
use Rattle.std.proofs.lemmas.Bool.{and_from, and_parts, both_ways, cases_Bool, eqb-true, not-true}
use Rattle.std.proofs.lemmas.Bool.Decides.{nat_tests}
use Rattle.std.proofs.lemmas.List.{take_more}
use Rattle.std.specs.List.{list_all, list_any, slice_index_or}
use Rattle.std.specs.Option.{option_or}
use Rattle.std.specs.Prelude.{if◌then◌else◌, IsTrue, min, nat_le}
use Rattle.railway.specs.declared.block.BlockEnd.{BlockEnd}
use Rattle.railway.specs.declared.exit.Exit.{Exit}
use Rattle.railway.specs.declared.exit.Exit.TheVariants.{Against as Lies}
use Rattle.railway.specs.declared.exit.Onward.TheVariants.{To, Against}
use Rattle.railway.specs.declared.joint.Joint.{Joint}
use Rattle.railway.specs.declared.joint.TurnoutState.{TurnoutState}
use Rattle.railway.specs.declared.train.Place.{Place}
use Rattle.railway.specs.declared.train.TrainState.{TrainState}
use Rattle.railway.specs.Blocks.{length_of, same_block_end}
use Rattle.railway.specs.Ends.{are_apart, ends_of_joints, ends_of_turnouts, has_end}
use Rattle.railway.specs.Laws.{is_moving_end}
use Rattle.railway.specs.Network.{Network, across, as_joint, exit_of, exit_to, first_at, is_against, is_branch, is_end_of, is_moving, is_sound, joined, joints_of, leaves_at, onward, onward_by, partner, turnouts_of, way_on}
use Rattle.railway.specs.Places.{end_ahead, is_derailed, span, to_end}
use Rattle.railway.specs.Railway.{is_train}
use Rattle.railway.specs.Turnouts.{advanced, calmer, moved_on, is_calm_for, same_bool}
use Rattle.railway.proofs.Facts.{none-some, or-left, or-left-true, or-right, or-right-true, some-same}
use Rattle.railway.proofs.Joining.{across-none, apart-last, by-moving, lying-part, rest-found, same-self, same-true}
use Rattle.railway.proofs.Keeping.{spans-way, whole-of}
use Rattle.railway.proofs.Leading.{partner-append, sound}
use Rattle.railway.proofs.Runs.{parts-of}
use Rattle.railway.proofs.Throwing.{Changes, all-none, end_of_any, train-changed}
use Rattle.railway.proofs.Turning.{onward-cases, onward-end}
use Rattle.railway.proofs.Ways.{way_on-ends, way_on-suc}

-- Ends.

same-back : (one two : BlockEnd) → same_block_end one two ≡ false → same_block_end two one ≡ false
same-back one two h = elim (cases_Bool (same_block_end two one)) [
  | inl same ↦ absurd (both_ways (same_block_end one two) h (subst (λ (e : BlockEnd). same_block_end one e ≡ true) (sym (same-true two one same)) (same-self one)))
  | inr other ↦ other
]

-- an end that joints do not have
no-partner : (joints : List Joint) (end : BlockEnd) → has_end end (ends_of_joints joints) ≡ false → partner joints end ≡ None
no-partner [] end h = refl
no-partner (joint ∷ joints) end h =
    let one = or-left (same_block_end end joint.one) _ h in
    let rest = or-right (same_block_end end joint.one) _ h in
    let two = or-left (same_block_end end joint.two) _ rest in
    rest-found (across joint end) (partner joints end) (across-none joint end (same-back end joint.one one) (same-back end joint.two two))
    ∙ no-partner joints end (or-right (same_block_end end joint.two) _ rest)

has-last : (end : BlockEnd) (these those : List BlockEnd) → has_end end those ≡ true → has_end end (these ++ those) ≡ true
has-last end [] those h = h
has-last end (other ∷ these) those h = or-right-true (same_block_end end other) (has_end end (these ++ those)) (has-last end these those h)

-- an end among the last is not among the first
pub apart-first : (end : BlockEnd) (these those : List BlockEnd) → are_apart (these ++ those) ≡ true → has_end end those ≡ true → has_end end these ≡ false
apart-first end [] those h g = refl
apart-first end (other ∷ these) those h g =
    let parts = and_parts (not (has_end other (these ++ those))) (are_apart (these ++ those)) h in
    elim (cases_Bool (same_block_end end other)) [
      | inl same ↦ absurd (both_ways (has_end end (these ++ those)) (subst (λ (e : BlockEnd). has_end e (these ++ those) ≡ false) (sym (same-true end other same)) (not-true _ parts.0)) (has-last end these those g))
      | inr different ↦ or-none-first (same_block_end end other) (has_end end these) different (apart-first end these those parts.1 g)
    ] where
      or-none-first : (one two : Bool) → one ≡ false → two ≡ false → (one || two) ≡ false
      or-none-first true two e f = e
      or-none-first false two e f = f

-- A turnout that moves.

moving-against : (state : TurnoutState) (end : BlockEnd) → (is_moving state && is_end_of end state) ≡ true → is_against end state ≡ true
moving-against state end h =
    let parts = and_parts (is_moving state) (is_end_of end state) h in
    ap (λ (b : Bool). if b then is_end_of end state else is_branch end state) parts.0 ∙ parts.1

any-against : (states : List TurnoutState) (end : BlockEnd) → is_moving_end states end ≡ true → list_any (is_against end) states ≡ true
any-against [] end h = h
any-against (state ∷ states) end h = elim (cases_Bool (is_moving state && is_end_of end state)) [
  | inl here ↦ or-left-true (is_against end state) _ (moving-against state end here)
  | inr later ↦ or-right-true (is_against end state) _ (any-against states end (sym (ap (λ (b : Bool). b || is_moving_end states end) later) ∙ h))
]

turn : (one end : BlockEnd) → same_block_end one end ≡ true → same_block_end end one ≡ true
turn one end g = subst (λ (e : BlockEnd). same_block_end e one ≡ true) (same-true one end g) (same-self one)

three : (a b c x y z rest : Bool) → (a ≡ true → x ≡ true) → (b ≡ true → y ≡ true) → (c ≡ true → z ≡ true) → (a || (b || c)) ≡ true → (x || (y || (z || rest))) ≡ true
three true b c x y z rest f g k h = or-left-true x _ (f refl)
three false true c x y z rest f g k h = or-right-true x _ (or-left-true y _ (g refl))
three false false c x y z rest f g k h = or-right-true x _ (or-right-true y _ (or-left-true z _ (k h)))

-- an end of a turnout is one of its three
pub end-has : (state : TurnoutState) (end : BlockEnd) (rest : List BlockEnd) → is_end_of end state ≡ true
    → has_end end (state.turnout.common ∷ state.turnout.closed ∷ state.turnout.thrown ∷ rest) ≡ true
end-has state end rest h =
    three (same_block_end state.turnout.common end) (same_block_end state.turnout.closed end) (same_block_end state.turnout.thrown end)
    (same_block_end end state.turnout.common) (same_block_end end state.turnout.closed) (same_block_end end state.turnout.thrown) (has_end end rest)
    (turn state.turnout.common end) (turn state.turnout.closed end) (turn state.turnout.thrown end) h

moving-has : (states : List TurnoutState) (end : BlockEnd) → is_moving_end states end ≡ true → has_end end (ends_of_turnouts (turnouts_of states)) ≡ true
moving-has [] end h = h
moving-has (state ∷ states) end h = elim (cases_Bool (is_moving state && is_end_of end state)) [
  | inl here ↦ end-has state end (ends_of_turnouts (turnouts_of states)) (and_parts (is_moving state) (is_end_of end state) here).1
  | inr later ↦
      or-right-true (same_block_end end state.turnout.common) _ (or-right-true (same_block_end end state.turnout.closed) _ (or-right-true (same_block_end end state.turnout.thrown) _
      (moving-has states end (sym (ap (λ (b : Bool). b || is_moving_end states end) later) ∙ h))))
]

-- the three ends of a turnout, and those of the others
abbrev own : TurnoutState → List BlockEnd
own state = state.turnout.common ∷ state.turnout.closed ∷ state.turnout.thrown ∷ []

-- a turnout that has not the end does not lead from it
branch-other : (b : Bool) (end thrown closed : BlockEnd) → same_block_end end thrown ≡ false → same_block_end end closed ≡ false → same_block_end (if b then thrown else closed) end ≡ false
branch-other true end thrown closed t c = same-back end thrown t
branch-other false end thrown closed t c = same-back end closed c

across-other : (state : TurnoutState) (end : BlockEnd) → has_end end (own state) ≡ false → across (as_joint state) end ≡ None
across-other state end h =
    let common = or-left (same_block_end end state.turnout.common) _ h in
    let rest = or-right (same_block_end end state.turnout.common) _ h in
    let closed = or-left (same_block_end end state.turnout.closed) _ rest in
    let thrown = or-left (same_block_end end state.turnout.thrown) _ (or-right (same_block_end end state.turnout.closed) _ rest) in
    across-none (as_joint state) end (same-back end state.turnout.common common) (branch-other state.is_thrown end state.turnout.thrown state.turnout.closed thrown closed)

-- a turnout that moves leads from none of its ends, and no other does
moving-none : (states : List TurnoutState) (end : BlockEnd) → are_apart (ends_of_turnouts (turnouts_of states)) ≡ true → is_moving_end states end ≡ true → partner (joints_of states) end ≡ None
moving-none [] end apart h = cc
moving-none (state ∷ states) end apart h = elim (cases_Bool (is_moving state && is_end_of end state)) [
  | inl here ↦
      let parts = and_parts (is_moving state) (is_end_of end state) here in
      let rest : List BlockEnd = ends_of_turnouts (turnouts_of states) in
      let moved_on : joints_of (state ∷ states) ≡ joints_of states = ap (λ (b : Bool). if b then joints_of states else as_joint state ∷ joints_of states) parts.0 in
      ap (λ (joints : List Joint). partner joints end) moved_on
      ∙ no-partner (joints_of states) end (lying-part states end (not-rest state end rest apart parts.1))
  | inr later ↦
      let more : is_moving_end states end ≡ true = sym (ap (λ (b : Bool). b || is_moving_end states end) later) ∙ h in
      let none = moving-none states end (apart-last (own state) (ends_of_turnouts (turnouts_of states)) apart) more in
      by-moving (λ (joints : List Joint). partner joints end ≡ None) state states none
      (rest-found (across (as_joint state) end) (partner (joints_of states) end) (across-other state end (apart-first end (own state) (ends_of_turnouts (turnouts_of states)) apart (moving-has states end more))) ∙ none)
] where
  not-rest : (state : TurnoutState) (end : BlockEnd) (rest : List BlockEnd) → are_apart (state.turnout.common ∷ state.turnout.closed ∷ state.turnout.thrown ∷ rest) ≡ true → is_end_of end state ≡ true → has_end end rest ≡ false
  not-rest state end rest apart g = elim (cases_Bool (has_end end rest)) [
    | inl has ↦ absurd (both_ways (has_end end (own state)) (apart-first end (own state) rest apart has) (end-has state end [] g))
    | inr none ↦ none
  ]

pub moving-exit : (n : Network) (end : BlockEnd) → IsTrue (is_sound n) → is_moving_end n.turnouts end ≡ true → exit_of n end ≡ Lies
moving-exit n end is h =
    let apart = (sound n is).apart in
    let turnouts : List BlockEnd = ends_of_turnouts (turnouts_of n.turnouts) in
    let joints : List BlockEnd = ends_of_joints n.joints in
    let first = no-partner n.joints end (apart-first end joints turnouts apart (moving-has n.turnouts end h)) in
    let second = moving-none n.turnouts end (apart-last joints turnouts apart) h in
    let none : partner (joined n) end ≡ None = partner-append n.joints (joints_of n.turnouts) end ∙ ap (λ (o : Option BlockEnd). option_or o (partner (joints_of n.turnouts) end)) first ∙ second in
    ap (λ (o : Option BlockEnd). exit_to o (list_any (is_against end) n.turnouts)) none
    ∙ ap (λ (b : Bool). exit_to None b) (any-against n.turnouts end h)

-- A train under which a turnout comes to lie.

-- a turnout comes to lie within so many microseconds
abbrev pub comes : (micros : ℕ) → TurnoutState → Bool
comes micros state = not (same_bool (is_moving (moved_on micros state)) (is_moving state))

same-lies : (one two : Bool) → not (same_bool one two) ≡ false → one ≡ two
same-lies true true h = refl
same-lies true false h = cc
same-lies false true h = cc
same-lies false false h = refl

pub moved_on-changes : (micros : ℕ) → Changes (moved_on micros) (comes micros)
moved_on-changes micros = record {
  keeps = λ state. refl;
  others = λ state h. record { turnout = refl; thrown = refl; moving = same-lies (is_moving (moved_on micros state)) (is_moving state) h };
}

comes-moves : (micros : ℕ) (state : TurnoutState) → comes micros state ≡ true → is_moving state ≡ true
comes-moves micros state h = by micros state.left h where
  by : (k left : ℕ) → not (same_bool (not (left - k == 0)) (not (left == 0))) ≡ true → not (left == 0) ≡ true
  by k zero g = grind (arith, nat_tests, g)
  by k (suc left) g = grind (arith, nat_tests)

comes-moving : (micros : ℕ) (states : List TurnoutState) (end : BlockEnd) → end_of_any (comes micros) states end ≡ true → is_moving_end states end ≡ true
comes-moving micros [] end h = h
comes-moving micros (state ∷ states) end h = elim (cases_Bool (is_end_of end state && comes micros state)) [
  | inl here ↦
      let parts = and_parts (is_end_of end state) (comes micros state) here in
      or-left-true (is_moving state && is_end_of end state) _ (and_from (is_moving state) (is_end_of end state) (comes-moves micros state parts.1) parts.0)
  | inr later ↦
      or-right-true (is_moving state && is_end_of end state) _ (comes-moving micros states end (sym (ap (λ (b : Bool). b || end_of_any (comes micros) states end) later) ∙ h))
]

-- a way that leads on from a place
goes-on : (n : Network) (p q r : Place) (part way : ℕ) → part < way → way_on n p part ≡ Some q → way_on n p way ≡ Some r → (next : Place) × (onward n q ≡ To next)
unfolding way_on
goes-on n p q r part zero less there whole = absurd (omega (arith, less))
goes-on n p q r zero (suc way) less there whole = elim (onward-cases (onward n p)) [
  | inl next ↦ (next.0, ap (λ (s : Place). onward n s) (sym (some-same p q there)) ∙ next.1)
  | inr ends ↦ absurd (none-some r (sym (way_on-ends n p (suc way) (omega arith) ends) ∙ whole))
]
goes-on n p q r (suc part) (suc way) less there whole = elim (onward-cases (onward n p)) [
  | inl next ↦ goes-on n next.0 q r part way (omega (arith, less)) (sym (way_on-suc n p next.0 part next.1) ∙ there) (sym (way_on-suc n p next.0 way next.1) ∙ whole)
  | inr ends ↦ absurd (none-some r (sym (way_on-ends n p (suc way) (omega arith) ends) ∙ whole))
]

to-against : (next : Place) → To next ≡ Against → ⊥
to-against next h = cc

pub moving-onward : (n : Network) (p : Place) → IsTrue (is_sound n) → to_end (length_of n.blocks p.block) p ≡ 0 → is_moving_end n.turnouts (end_ahead p) ≡ true → onward n p ≡ Against
moving-onward n p is last moves = onward-end n p last ∙ ap (λ (e : Exit). onward_by n.blocks e) (moving-exit n (end_ahead p) is moves)

-- no train on the rails is over a turnout that moves
pub none-moving : (micros : ℕ) (n : Network) (t : TrainState) → IsTrue (is_sound n) → is_train n t ≡ true → is_derailed t ≡ false → first_at (end_of_any (comes micros) n.turnouts) n t.rear (span t) ≡ None
none-moving micros n t is h rails =
    all-none (end_of_any (comes micros) n.turnouts) n t.rear (span t) at where
      whole : way_on n t.rear (span t) ≡ Some t.front
      whole = spans-way n t (whole-of n t (parts-of n t h).whole rails).spanned

      at : (part : ℕ) (q : Place) → part < span t → way_on n t.rear part ≡ Some q → leaves_at (end_of_any (comes micros) n.turnouts) n q ≡ false
      at part q less there = elim (cases_Bool (leaves_at (end_of_any (comes micros) n.turnouts) n q)) [
        | inl leaves ↦
            let parts = and_parts (to_end (length_of n.blocks q.block) q == 0) (end_of_any (comes micros) n.turnouts (end_ahead q)) leaves in
            let next = goes-on n t.rear q t.front part (span t) less there whole in
            let against = moving-onward n q is (eqb-true (to_end (length_of n.blocks q.block) q) 0 parts.0) (comes-moving micros n.turnouts (end_ahead q) parts.1) in
            absurd (to-against next.0 (sym next.1 ∙ against))
        | inr not ↦ not
      ]

pub advanced-train : (micros : ℕ) (n : Network) (t : TrainState) → IsTrue (is_sound n) → is_train n t ≡ true → is_train (advanced micros n) t ≡ true
advanced-train micros n t is h = train-changed (moved_on micros) (comes micros) (moved_on-changes micros) n t h (none-moving micros n t is h)

pub advanced-trains : (micros : ℕ) (n : Network) (ts : List TrainState) → IsTrue (is_sound n) → list_all (is_train n) ts ≡ true → list_all (is_train (advanced micros n)) ts ≡ true
advanced-trains micros n [] is h = refl
advanced-trains micros n (t ∷ ts) is h =
    let parts = and_parts (is_train n t) (list_all (is_train n) ts) h in
    and_from (is_train (advanced micros n) t) (list_all (is_train (advanced micros n)) ts) (advanced-train micros n t is parts.0) (advanced-trains micros n ts is parts.1)

-- The time until a turnout comes to lie.

least-less : (k left : ℕ) → (if not (left == 0) then min k left else k) ≤ k
least-less k zero = omega arith
least-less k (suc left) = grind (arith, nat_tests)

least-goes : (k left : ℕ) → 0 < k → 0 < (if not (left == 0) then min k left else k)
least-goes k zero h = h
least-goes k (suc left) h = grind (arith, nat_tests)

least-calm : (k left c : ℕ) → c ≤ (if not (left == 0) then min k left else k) → ((left == 0) || nat_le c left) ≡ true
least-calm k zero c h = refl
least-calm k (suc left) c h = grind (arith, nat_tests)

pub calmer-less : (k : ℕ) (state : TurnoutState) → calmer k state ≤ k
calmer-less k state = least-less k state.left

pub calmer-goes : (k : ℕ) (state : TurnoutState) → 0 < k → 0 < calmer k state
calmer-goes k state h = least-goes k state.left h

pub calmer-calm : (k c : ℕ) (state : TurnoutState) → c ≤ calmer k state → is_calm_for c state ≡ true
calmer-calm k c state h = least-calm k state.left c h

-- less time is as calm
less-calm : (k c left : ℕ) → c ≤ k → ((left == 0) || nat_le k left) ≡ true → ((left == 0) || nat_le c left) ≡ true
less-calm k c zero h g = refl
less-calm k c (suc left) h g = grind (arith, nat_tests, g)

pub all-calm : (k c : ℕ) (states : List TurnoutState) → c ≤ k → list_all (is_calm_for k) states ≡ true → list_all (is_calm_for c) states ≡ true
all-calm k c [] h g = refl
all-calm k c (state ∷ states) h g =
    let parts = and_parts (is_calm_for k state) (list_all (is_calm_for k) states) g in
    and_from (is_calm_for c state) (list_all (is_calm_for c) states) (less-calm k c state.left h parts.0) (all-calm k c states h parts.1)

-- Turnouts of which none moves.

lying-moved_on : (k left : ℕ) → not (left == 0) ≡ false → left - k ≡ left
lying-moved_on k left h = let none : left ≡ 0 = eqb-true left 0 (is-not (left == 0) h) in omega (arith, none) where
  is-not : (b : Bool) → not b ≡ false → b ≡ true
  is-not true g = refl
  is-not false g = cc

pub lying-stay : (k : ℕ) (states : List TurnoutState) → list_any is_moving states ≡ false → map (moved_on k) states ≡ states
lying-stay k [] h = refl
lying-stay k (state ∷ states) h =
    ap (λ (left : ℕ). record state { left = left } ∷ map (moved_on k) states) (lying-moved_on k state.left (or-left (is_moving state) (list_any is_moving states) h))
    ∙ ap (λ (rest : List TurnoutState). state ∷ rest) (lying-stay k states (or-right (is_moving state) (list_any is_moving states) h))

-- One turnout more.

pub one-goes : (k c : ℕ) (state : TurnoutState) → c ≡ calmer k state → 0 < k → 0 < c
one-goes k c state e h = subst (λ (j : ℕ). 0 < j) (sym e) (calmer-goes k state h)

pub one-less : (k c most : ℕ) (state : TurnoutState) → c ≡ calmer k state → k ≤ most → c ≤ most
one-less k c most state e h = let less = calmer-less k state in omega (arith, e, h, less)

calm-append : (c : ℕ) (these : List TurnoutState) (state : TurnoutState) → list_all (is_calm_for c) these ≡ true → is_calm_for c state ≡ true → list_all (is_calm_for c) (these ++ state ∷ []) ≡ true
calm-append c [] state h g = and_from (is_calm_for c state) true g refl
calm-append c (first ∷ these) state h g =
    let parts = and_parts (is_calm_for c first) (list_all (is_calm_for c) these) h in
    and_from (is_calm_for c first) (list_all (is_calm_for c) (these ++ state ∷ [])) parts.0 (calm-append c these state parts.1 g)

pub one-calm : (k c : ℕ) (states : List TurnoutState) (i : ℕ) (none : TurnoutState) → i < length states → c ≡ calmer k (slice_index_or states i none) → list_all (is_calm_for k) (take i states) ≡ true
    → list_all (is_calm_for c) (take (i + 1) states) ≡ true
one-calm k c states i none less e h =
    let state : TurnoutState = slice_index_or states i none in
    let under : c ≤ k = let most = calmer-less k state in omega (arith, e, most) in
    let at : c ≤ calmer k state = omega (arith, e) in
    subst (λ (front : List TurnoutState). list_all (is_calm_for c) front ≡ true) (sym (take_more states i none less))
    (calm-append c (take i states) state (all-calm k c (take i states) under h) (calmer-calm k c state at))
