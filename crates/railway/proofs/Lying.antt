-- How long turnouts move.
use Rattle.std.proofs.Common.{◌≡◌, ◌↔◌, ℕ, zero, suc, ◌-◌, ◌*◌, ◌<◌, ◌≤◌, ◌==◌, Bool, true, false, not, List, [], ◌∷◌, map, refl, ap, ◌∙◌, arith}
use Rattle.std.proofs.lemmas.Bool.{eq-eqb, eqb-true}
use Rattle.std.specs.Prelude.{if◌then◌else◌, IsTrue}
use Rattle.layout_core.specs.declared.node.Node.{Node}
use Rattle.refresh_ring.specs.declared.pick.Power.{Power}
use Rattle.refresh_ring.specs.declared.pick.Power.TheVariants.{Off, Running as PowerOn, Paused}
use Rattle.railway.specs.declared.joint.TurnoutState.{TurnoutState}
use Rattle.railway.specs.Network.{lies}
use Rattle.railway.specs.Railway.{RailwayState, run_through, ran_in}
use Rattle.railway.specs.Turnouts.{asked, moved_on, moved_on_under, same_bool}

-- Whatever trains do.

none-moved_on : (p : Power) (states : List TurnoutState) → states ≡ map (moved_on_under p 0) states
none-moved_on p [] = refl
none-moved_on p (state ∷ states) = ap (λ (s : TurnoutState). s ∷ states) (same p) ∙ ap (λ (rest : List TurnoutState). moved_on_under p 0 state ∷ rest) (none-moved_on p states) where
  less : state ≡ moved_on 0 state
  less = let e : state.left ≡ state.left - 0 = omega arith in ap (λ (left : ℕ). record state { left = left }) e

  same : (q : Power) → state ≡ moved_on_under q 0 state
  same Off = refl
  same PowerOn = less
  same Paused = less

moved_on-on : (p : Power) (k : ℕ) (states : List TurnoutState) → map (moved_on_under p k) (map (moved_on_under p 1) states) ≡ map (moved_on_under p (suc k)) states
moved_on-on p k [] = refl
moved_on-on p k (state ∷ states) = ap (λ (s : TurnoutState). s ∷ map (moved_on_under p k) (map (moved_on_under p 1) states)) (same p) ∙ ap (λ (rest : List TurnoutState). moved_on_under p (suc k) state ∷ rest) (moved_on-on p k states) where
  more : moved_on k (moved_on 1 state) ≡ moved_on (suc k) state
  more = let e : state.left - 1 - k ≡ state.left - suc k = omega arith in ap (λ (left : ℕ). record state { left = left }) e

  same : (q : Power) → moved_on_under q k (moved_on_under q 1 state) ≡ moved_on_under q (suc k) state
  same Off = refl
  same PowerOn = more
  same Paused = more

all-off : (states : List TurnoutState) → states ≡ map (moved_on_under Off 1) states
all-off [] = refl
all-off (state ∷ states) = ap (λ (rest : List TurnoutState). state ∷ rest) (all-off states)

all-paused : (k : ℕ) (states : List TurnoutState) → map (moved_on k) states ≡ map (moved_on_under Paused k) states
all-paused k [] = refl
all-paused k (state ∷ states) = ap (λ (rest : List TurnoutState). moved_on k state ∷ rest) (all-paused k states)

all-on : (k : ℕ) (states : List TurnoutState) → map (moved_on k) states ≡ map (moved_on_under PowerOn k) states
all-on k [] = refl
all-on k (state ∷ states) = ap (λ (rest : List TurnoutState). moved_on k state ∷ rest) (all-on k states)

ran-turnouts : (p : Power) (nodes : List Node) (r : RailwayState) → (ran_in p 1 nodes r).network.turnouts ≡ map (moved_on_under p 1) r.network.turnouts
ran-turnouts Off nodes r = all-off r.network.turnouts
ran-turnouts PowerOn nodes r = all-on 1 r.network.turnouts
ran-turnouts Paused nodes r = all-paused 1 r.network.turnouts

pub run_through-turnouts : (p : Power) (nodes : List Node) (k : ℕ) (r : RailwayState) → (run_through p k nodes r).network.turnouts ≡ map (moved_on_under p k) r.network.turnouts
unfolding run_through
run_through-turnouts p nodes zero r = none-moved_on p r.network.turnouts
run_through-turnouts p nodes (suc k) r =
    run_through-turnouts p nodes k (ran_in p 1 nodes r) ∙ ap (λ (states : List TurnoutState). map (moved_on_under p k) states) (ran-turnouts p nodes r) ∙ moved_on-on p k r.network.turnouts

-- How long.

other-side : (b : Bool) → same_bool (not b) b ≡ false
other-side true = refl
other-side false = refl

same-side : (b : Bool) → same_bool b (not b) ≡ false
same-side true = refl
same-side false = refl

-- a turnout that lies has all of its time left to the other side
left-other : (state : TurnoutState) → (asked (not state.is_thrown) state).left ≡ state.turnout.time * 1000 - state.left
left-other state = ap (λ (b : Bool). if b then state.left else state.turnout.time * 1000 - state.left) (other-side state.is_thrown)

left-back : (state : TurnoutState) (part : ℕ) → (asked state.is_thrown (moved_on part (asked (not state.is_thrown) state))).left ≡ state.turnout.time * 1000 - ((asked (not state.is_thrown) state).left - part)
left-back state part =
    ap (λ (b : Bool). if b then (asked (not state.is_thrown) state).left - part else state.turnout.time * 1000 - ((asked (not state.is_thrown) state).left - part)) (same-side state.is_thrown)

none-left : (left micros : ℕ) → ((left - micros == 0) ≡ true) ↔ (left ≤ micros)
none-left left micros = (one, two) where
  one : (left - micros == 0) ≡ true → left ≤ micros
  one h = let e : left - micros ≡ 0 = eqb-true (left - micros) 0 h in omega (arith, e)

  two : left ≤ micros → (left - micros == 0) ≡ true
  two h = eq-eqb (left - micros) 0 (omega (arith, h))

pub lies-other : (state : TurnoutState) (micros : ℕ) → IsTrue (lies state) → IsTrue (lies (moved_on micros (asked (not state.is_thrown) state))) ↔ (state.turnout.time * 1000 ≤ micros)
lies-other state micros h =
    let lying : state.left ≡ 0 = eqb-true state.left 0 h in
    let left : (asked (not state.is_thrown) state).left ≡ state.turnout.time * 1000 = left-other state ∙ omega (arith, lying) in
    let way = none-left (asked (not state.is_thrown) state).left micros in
    ((λ g. let less = way.0 g in omega (arith, left, less)), (λ g. way.1 (omega (arith, left, g))))

pub lies-back : (state : TurnoutState) (part micros : ℕ) → IsTrue (lies state) → part < state.turnout.time * 1000
    → IsTrue (lies (moved_on micros (asked state.is_thrown (moved_on part (asked (not state.is_thrown) state))))) ↔ (part ≤ micros)
lies-back state part micros h less =
    let lying : state.left ≡ 0 = eqb-true state.left 0 h in
    let all : (asked (not state.is_thrown) state).left ≡ state.turnout.time * 1000 - state.left = left-other state in
    let back = left-back state part in
    let left : (asked state.is_thrown (moved_on part (asked (not state.is_thrown) state))).left ≡ part = back ∙ omega (arith, lying, all, less) in
    let way = none-left (asked state.is_thrown (moved_on part (asked (not state.is_thrown) state))).left micros in
    ((λ g. let some = way.0 g in omega (arith, left, some)), (λ g. way.1 (omega (arith, left, g))))

pub asked-at-once : (state : TurnoutState) (thrown : Bool) → IsTrue (lies state) → state.turnout.time ≡ 0 → asked thrown state ≡ record state { is_thrown = thrown }
asked-at-once state thrown h none =
    let lying : state.left ≡ 0 = eqb-true state.left 0 h in
    ap (λ (left : ℕ). record state { is_thrown = thrown; left = left }) (either (same_bool thrown state.is_thrown) lying) where
      either : (b : Bool) → state.left ≡ 0 → (if b then state.left else state.turnout.time * 1000 - state.left) ≡ state.left
      either true lying = refl
      either false lying = omega (arith, lying, none)
