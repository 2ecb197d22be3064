-- A train is derailed by a turnout of the plan.
use Rattle.std.proofs.Common.{◌≡◌, ℕ, zero, suc, ◌<◌, ◌==◌, ◌&&◌, ◌||◌, Bool, true, false, inl, inr, List, [], ◌∷◌, Option, Some, None, map, refl, ap, sym, subst, ◌∙◌}
use Rattle.std.proofs.lemmas.Bool.{and_from, and_parts, both_ways, cases_Bool, eq-eqb, eqb-true}
use Rattle.std.specs.List.{list_any}
use Rattle.std.specs.Prelude.{if◌then◌else◌, IfSome, is_some}
use Rattle.layout_core.specs.declared.node.Node.{Node}
use Rattle.motion.specs.Velocity.{next_velocity}
use Rattle.motion.specs.declared.velocity.Drive.{Drive}
use Rattle.motion.specs.declared.velocity.Velocity.{Velocity}
use Rattle.refresh_ring.specs.declared.pick.Power.{Power}
use Rattle.refresh_ring.specs.declared.pick.Power.TheVariants.{Off, Running as PowerOn, Paused}
use Rattle.railway.specs.declared.block.Block.{Block}
use Rattle.railway.specs.declared.block.BlockEnd.{BlockEnd}
use Rattle.railway.specs.declared.exit.Exit.{Exit}
use Rattle.railway.specs.declared.exit.Exit.TheVariants.{Leads, BufferStop as Stop, Against as Lies}
use Rattle.railway.specs.declared.exit.Onward.TheVariants.{To, Against}
use Rattle.railway.specs.declared.joint.TurnoutState.{TurnoutState}
use Rattle.railway.specs.declared.train.Place.{Place}
use Rattle.railway.specs.declared.train.TrainState.{TrainState}
use Rattle.railway.specs.Blocks.{length_of, same_block_end}
use Rattle.railway.specs.Failures.{has_switch}
use Rattle.railway.specs.Laws.{asked_of, train_after}
use Rattle.railway.specs.Network.{Network, exit_of, exit_to, is_against, is_branch, is_end_of, is_moving, joined, leaves_at, onward, onward_by, partner, run_on, step, switch_at, way_on}
use Rattle.railway.specs.Places.{end_ahead, further, is_derailed, span, still, to_end, turned}
use Rattle.railway.specs.Railway.{run_in, run_under}
use Rattle.railway.specs.Running.{moved_at, ridden, run_by}
use Rattle.railway.specs.Turnouts.{checked, is_moved, is_moved_end, laid, observed}
use Rattle.railway.proofs.Facts.{or-left-true, or-right-true}
use Rattle.railway.proofs.Keeping.{by-step}
use Rattle.railway.proofs.Riding.{moved-by, ridden-keeps}
use Rattle.railway.proofs.Running.{in-derailed, in-itself}
use Rattle.railway.proofs.Throwing.{all-none, checked-by, checked-stays, first-leaves, none-leaves}
use Rattle.railway.proofs.Turning.{onward-end}

-- An end of a turnout.

abbrev HasEnd : List TurnoutState → BlockEnd → Type 0
HasEnd states end = list_any (is_end_of end) states ≡ true

switch-found : (states : List TurnoutState) (end : BlockEnd) → HasEnd states end → has_switch states (switch_at states end) ≡ true
switch-found [] end h = cc
switch-found (state ∷ states) end h =
    let here : ℕ = state.turnout.switch in
    let rest : ℕ = switch_at states end in
    elim (cases_Bool (is_end_of end state)) [
      | inl is ↦
          let at : switch_at (state ∷ states) end ≡ here = ap (λ (b : Bool). if b then here else rest) is in
          subst (λ (s : ℕ). has_switch (state ∷ states) s ≡ true) (sym at) (or-left-true (here == here) (has_switch states here) (eq-eqb here here refl))
      | inr not ↦
          let at : switch_at (state ∷ states) end ≡ rest = ap (λ (b : Bool). if b then here else rest) not in
          let has : HasEnd states end = sym (ap (λ (b : Bool). b || list_any (is_end_of end) states) not) ∙ h in
          subst (λ (s : ℕ). has_switch (state ∷ states) s ≡ true) (sym at) (or-right-true (here == rest) (has_switch states rest) (switch-found states end has))
    ]

-- A turnout that lies against a train.

lies-against : (blocks : List Block) (exit : Exit) → onward_by blocks exit ≡ Against → exit ≡ Lies
lies-against blocks (Leads end) h = cc
lies-against blocks Stop h = cc
lies-against blocks Lies h = refl

against-branch : (found : Option BlockEnd) (branch : Bool) → exit_to found branch ≡ Lies → branch ≡ true
against-branch (Some end) branch h = cc
against-branch None true h = refl
against-branch None false h = cc

against-has : (state : TurnoutState) (end : BlockEnd) → is_against end state ≡ true → is_end_of end state ≡ true
against-has state end h = by (is_moving state) h where
  by : (b : Bool) → (if b then is_end_of end state else is_branch end state) ≡ true → is_end_of end state ≡ true
  by true g = g
  by false g = or-right-true (same_block_end state.turnout.common end) (is_branch end state) g

any-has : (states : List TurnoutState) (end : BlockEnd) → list_any (is_against end) states ≡ true → HasEnd states end
any-has [] end h = cc
any-has (state ∷ states) end h = elim (cases_Bool (is_against end state)) [
  | inl is ↦ or-left-true (is_end_of end state) (list_any (is_end_of end) states) (against-has state end is)
  | inr not ↦
      let rest : list_any (is_against end) states ≡ true = sym (ap (λ (b : Bool). b || list_any (is_against end) states) not) ∙ h in
      or-right-true (is_end_of end state) (list_any (is_end_of end) states) (any-has states end rest)
]

against-end : (n : Network) (p : Place) → onward n p ≡ Against → HasEnd n.turnouts (end_ahead p)
against-end n p h = elim (cases_Bool (to_end (length_of n.blocks p.block) p == 0)) [
  | inl ends ↦
      let end : BlockEnd = end_ahead p in
      let none : to_end (length_of n.blocks p.block) p ≡ 0 = eqb-true (to_end (length_of n.blocks p.block) p) 0 ends in
      let lies : exit_of n end ≡ Lies = lies-against n.blocks (exit_of n end) (sym (onward-end n p none) ∙ h) in
      any-has n.turnouts end (against-branch (partner (joined n) end) (list_any (is_against end) n.turnouts) lies)
  | inr goes ↦
      let on : onward n p ≡ To (further p 1) = ap (λ (b : Bool). if b then onward_by n.blocks (exit_of n (end_ahead p)) else To (further p 1)) goes in
      absurd (not-both (further p 1) (sym on ∙ h))
] where
  not-both : (q : Place) → To q ≡ Against → ⊥
  not-both q h = cc

-- a train that is derailed at all is so by one of the turnouts
abbrev Named : Network → TrainState → Type 0
Named n t = IfSome t.derailed_at (λ switch. has_switch n.turnouts switch ≡ true)

step-named : (n : Network) (t : TrainState) → Named n t → Named n (step n t)
step-named n t h = by-step (Named n) n t h (λ against. switch-found n.turnouts (end_ahead t.front) (against-end n t.front against)) (λ front rear rails f r. h)

run-named : (n : Network) (t : TrainState) (way : ℕ) → Named n t → Named n (run_on n t way)
unfolding run_on
run-named n t zero h = h
run-named n t (suc way) h = run-named n (step n t) way (step-named n t h)

by-named : (n : Network) (forward : Bool) (way : ℕ) (t : TrainState) → Named n t → Named n (run_by n forward way t)
by-named n true way t h = run-named n t way h
by-named n false way t h = run-named n (turned t) way h

on-rails : (n : Network) (found : Option ℕ) → is_some found ≡ false → IfSome found (λ switch. has_switch n.turnouts switch ≡ true)
on-rails n None h = tt
on-rails n (Some switch) h = cc

moved-named : (n : Network) (v : Velocity) (way : ℕ) (t : TrainState) → Named n t → Named n (moved_at n v way t)
moved-named n v way t h = moved-by (Named n) n v way t h (λ _. by-named n v.forward way (record t { velocity = v }) h)

ridden-named : (n : Network) (d : Drive) (micros : ℕ) (t : TrainState) → Named n t → Named n (ridden n d micros t)
ridden-named n d micros t h =
    ridden-keeps (Named n) n d micros t (λ u g. moved-named n (next_velocity d u.velocity) (next_velocity d u.velocity).speed u g) h

in-named : (n : Network) (micros : ℕ) (nodes : List Node) (t : TrainState) → Named n t → Named n (run_in n micros nodes t)
in-named n micros nodes t h = elim (cases_Bool (is_derailed t)) [
  | inl derailed ↦ subst (Named n) (sym (in-derailed n micros nodes t derailed)) h
  | inr rails ↦ subst (Named n) (sym (in-itself n micros nodes t rails)) (ridden-named n (asked_of nodes t) micros t h)
]

under-named : (p : Power) (n : Network) (micros : ℕ) (nodes : List Node) (t : TrainState) → Named n t → Named n (run_under p n micros nodes t)
under-named Off n micros nodes t h = h
under-named PowerOn n micros nodes t h = in-named n micros nodes t h
under-named Paused n micros nodes t h = in-named n micros nodes t h

-- A turnout that is thrown under a train.

moved-end : (nodes : List Node) (states : List TurnoutState) (end : BlockEnd) → is_moved_end nodes states end ≡ true → HasEnd states end
moved-end nodes [] end h = cc
moved-end nodes (state ∷ states) end h = elim (cases_Bool (is_end_of end state)) [
  | inl has ↦ or-left-true (is_end_of end state) (list_any (is_end_of end) states) has
  | inr not ↦
      let rest : is_moved_end nodes states end ≡ true = sym (ap (λ (b : Bool). (b && is_moved nodes state) || is_moved_end nodes states end) not) ∙ h in
      or-right-true (is_end_of end state) (list_any (is_end_of end) states) (moved-end nodes states end rest)
]

laid-switches : (nodes : List Node) (states : List TurnoutState) (switch : ℕ) → has_switch (map (observed nodes) states) switch ≡ has_switch states switch
laid-switches nodes [] switch = refl
laid-switches nodes (state ∷ states) switch = ap (λ (b : Bool). state.turnout.switch == switch || b) (laid-switches nodes states switch)

named-laid : (n : Network) (nodes : List Node) (t : TrainState) → Named n t → Named (laid nodes n) t
named-laid n nodes t h = by t.derailed_at h where
  by : (found : Option ℕ) → IfSome found (λ switch. has_switch n.turnouts switch ≡ true) → IfSome found (λ switch. has_switch (laid nodes n).turnouts switch ≡ true)
  by None g = tt
  by (Some switch) g = laid-switches nodes n.turnouts switch ∙ g

laid-named : (n : Network) (nodes : List Node) (found : Option ℕ) → IfSome found (λ switch. has_switch (laid nodes n).turnouts switch ≡ true) → IfSome found (λ switch. has_switch n.turnouts switch ≡ true)
laid-named n nodes None h = tt
laid-named n nodes (Some switch) h = sym (laid-switches nodes n.turnouts switch) ∙ h

checked-named : (nodes : List Node) (n : Network) (t : TrainState) → is_derailed t ≡ false → Named n (checked nodes n t)
checked-named nodes n t rails =
    checked-by (Named n) nodes n t (λ _. on-rails n t.derailed_at rails) (λ _ _. on-rails n t.derailed_at rails)
    (λ p _ some.
    let leaves = first-leaves (is_moved_end nodes n.turnouts) n t.rear p (span t) some in
    switch-found n.turnouts (end_ahead p)
    (moved-end nodes n.turnouts (end_ahead p) (and_parts (to_end (length_of n.blocks p.block) p == 0) (is_moved_end nodes n.turnouts (end_ahead p)) leaves).1))

pub derailed-named : (p : Power) (n : Network) (micros : ℕ) (nodes : List Node) (t : TrainState) → is_derailed t ≡ false
    → IfSome (train_after p n micros nodes t).derailed_at (λ switch. has_switch n.turnouts switch ≡ true)
derailed-named p n micros nodes t rails =
    let start : TrainState = checked nodes n t in
    laid-named n nodes (train_after p n micros nodes t).derailed_at
    (under-named p (laid nodes n) micros nodes start (named-laid n nodes start (checked-named nodes n t rails)))

-- it is derailed by it, where it is, and stands there
pub thrown-derails : (n : Network) (t : TrainState) (nodes : List Node) (part : ℕ) (p : Place) → is_derailed t ≡ false → part < span t → way_on n t.rear part ≡ Some p
    → to_end (length_of n.blocks p.block) p ≡ 0 → is_moved_end nodes n.turnouts (end_ahead p) ≡ true → is_derailed (checked nodes n t) ≡ true
thrown-derails n t nodes part p rails less there ends moved =
    checked-by (λ (u : TrainState). is_derailed u ≡ true) nodes n t (λ h. h)
    (λ _ none.
    let not-left = none-leaves (is_moved_end nodes n.turnouts) n t.rear p (span t) part none less there in
    let left = and_from (to_end (length_of n.blocks p.block) p == 0) (is_moved_end nodes n.turnouts (end_ahead p)) (eq-eqb (to_end (length_of n.blocks p.block) p) 0 ends) moved in
    absurd (both_ways (leaves_at (is_moved_end nodes n.turnouts) n p) not-left left))
    (λ _ _ _. refl)

under-stands : (p : Power) (n : Network) (micros : ℕ) (nodes : List Node) (t u : TrainState) → is_derailed t ≡ true → t ≡ record (still u) { derailed_at = t.derailed_at } → run_under p n micros nodes t ≡ record (still u) { derailed_at = t.derailed_at }
under-stands Off n micros nodes t u h g = ap (λ (w : TrainState). still w) g
under-stands PowerOn n micros nodes t u h g = in-derailed n micros nodes t h ∙ g
under-stands Paused n micros nodes t u h g = in-derailed n micros nodes t h ∙ g

pub thrown-stands : (n : Network) (t : TrainState) (p : Power) (micros : ℕ) (nodes : List Node) → is_derailed t ≡ false → is_derailed (checked nodes n t) ≡ true
    → train_after p n micros nodes t ≡ record (still t) { derailed_at = (checked nodes n t).derailed_at }
thrown-stands n t p micros nodes rails derailed =
    under-stands p (laid nodes n) micros nodes (checked nodes n t) t derailed
    (checked-by (λ (u : TrainState). is_derailed u ≡ true → u ≡ record (still t) { derailed_at = u.derailed_at }) nodes n t (λ h _. absurd (both_ways (is_derailed t) rails h))
    (λ _ _ h. absurd (both_ways (is_derailed t) rails h)) (λ _ _ _ _. refl) derailed)

pub others-stay : (n : Network) (t : TrainState) (nodes : List Node)
    → ((part : ℕ) (p : Place) → part < span t → way_on n t.rear part ≡ Some p → to_end (length_of n.blocks p.block) p ≡ 0 → is_moved_end nodes n.turnouts (end_ahead p) ≡ false) → checked nodes n t ≡ t
others-stay n t nodes h = checked-stays nodes n t (all-none (is_moved_end nodes n.turnouts) n t.rear (span t) leaves) where
  leaves : (part : ℕ) (q : Place) → part < span t → way_on n t.rear part ≡ Some q → leaves_at (is_moved_end nodes n.turnouts) n q ≡ false
  leaves part q less there = elim (cases_Bool (to_end (length_of n.blocks q.block) q == 0)) [
    | inl ends ↦
        ap (λ (b : Bool). (to_end (length_of n.blocks q.block) q == 0) && b) (h part q less there (eqb-true (to_end (length_of n.blocks q.block) q) 0 ends))
        ∙ and-none (to_end (length_of n.blocks q.block) q == 0)
    | inr goes ↦ ap (λ (b : Bool). b && is_moved_end nodes n.turnouts (end_ahead q)) goes
  ] where
    and-none : (b : Bool) → (b && false) ≡ false
    and-none true = refl
    and-none false = refl
