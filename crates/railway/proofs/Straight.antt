-- How long trains go one way.
use Rattle.std.proofs.Common.{◌≡◌, ◌⊎◌, ℕ, zero, suc, ◌+◌, ◌-◌, ◌≤◌, ◌==◌, ◌&&◌, ◌||◌, Bool, true, false, not, inl, inr, List, Option, Some, None, refl, ap, sym, ◌∙◌, arith}
use Rattle.std.proofs.lemmas.Bool.{and_from, cases_Bool, eq-eqb, or_cases}
use Rattle.std.proofs.lemmas.Bool.Decides.{nat_tests}
use Rattle.std.specs.Prelude.{if◌then◌else◌, is_some, nat_lt}
use Rattle.dcc_packet.specs.declared.steps.Motion.{Motion}
use Rattle.dcc_packet.specs.declared.steps.Motion.TheVariants.{Stop, Emergency, Step}
use Rattle.decoder_node.specs.declared.running.Running.{Running}
use Rattle.layout_core.specs.declared.node.Node.{Node}
use Rattle.motion.specs.Velocity.{goes_only, is_facing, next_velocity, next_velocity_by, same_bool, toward, velocity}
use Rattle.motion.specs.declared.velocity.Drive.{Drive}
use Rattle.motion.specs.declared.velocity.Momentum.{Momentum}
use Rattle.motion.specs.declared.velocity.Velocity.{Velocity}
use Rattle.railway.specs.declared.train.TrainState.{TrainState}
use Rattle.railway.specs.Laws.{asked_of, is_one_way, runs_only}
use Rattle.railway.specs.Trains.{is_forward, momentum_at, momentum_of, running_in, turns_round}
use Rattle.railway.proofs.Facts.{or-left-true, or-right-true}
use Rattle.railway.proofs.Unseen.{goes_only-add}

-- A train that faces where it is to go goes there.

same-ahead : (one two : Bool) → one ≡ two → same_bool one two ≡ true
same-ahead true two h = sym h
same-ahead false two h = ap not (sym h)

next-ahead : (o : Option Momentum) (d : Drive) (v : Velocity) → (o ≡ None) ⊎ (is_facing d v ≡ true) → (next_velocity_by o d v).forward ≡ d.forward
next-ahead None d v h = refl
next-ahead (Some m) d v (inl none) = cc
next-ahead (Some m) d v (inr facing) =
    ap (λ (b : Bool). (if b then velocity d.forward (toward m.acceleration m.braking v.speed d.speed) else velocity v.forward (v.speed - m.braking)).forward) facing

goes-ahead : (d : Drive) (k : ℕ) (v : Velocity) → (d.momentum ≡ None) ⊎ (is_facing d v ≡ true) → goes_only d.forward d k v ≡ true
unfolding goes_only
goes-ahead d zero v h = refl
goes-ahead d (suc k) v h =
    let next : Velocity = next_velocity d v in
    let same : same_bool next.forward d.forward ≡ true = same-ahead next.forward d.forward (next-ahead d.momentum d v h) in
    and_from (same_bool next.forward d.forward) (goes_only d.forward d k next) same
    (goes-ahead d k next (inr (or-right-true (next.speed == 0) (same_bool next.forward d.forward) same)))

-- One that is not to turn round does.

no-momentum : (running : Option Running) → momentum_of running None ≡ None
no-momentum None = refl
no-momentum (Some running) = by running.motion where
  by : (motion : Motion) → momentum_at motion None ≡ None
  by Stop = refl
  by Emergency = refl
  by (Step steps n) = refl

true-of : (b : Bool) → not b ≡ false → b ≡ true
true-of true h = refl
true-of false h = cc

faces : (speed : ℕ) (same : Bool) → (nat_lt 0 speed && not same) ≡ false → (speed == 0 || same) ≡ true
faces speed same h = elim (cases_Bool (nat_lt 0 speed)) [
  | inl moves ↦ or-right-true (speed == 0) same (true-of same (sym (ap (λ (b : Bool). b && not same) moves) ∙ h))
  | inr stands ↦
      let none : speed ≡ 0 = grind (arith, nat_tests, stands) in
      or-left-true (speed == 0) same (eq-eqb speed 0 none)
]

keeps-on : (running : Option Running) (o : Option Momentum) (speed : ℕ) (same : Bool) → (is_some o && nat_lt 0 speed && not same) ≡ false
    → (momentum_of running o ≡ None) ⊎ ((speed == 0 || same) ≡ true)
keeps-on running None speed same h = inl (no-momentum running)
keeps-on running (Some m) speed same h = inr (faces speed same h)

one-way-of : (forward : Bool) (nodes : List Node) (k : ℕ) (t : TrainState) → runs_only forward nodes k t ≡ true → is_one_way nodes k t ≡ true
one-way-of true nodes k t h = or-left-true (runs_only true nodes k t) (runs_only false nodes k t) h
one-way-of false nodes k t h = or-right-true (runs_only true nodes k t) (runs_only false nodes k t) h

pub straight-on : (nodes : List Node) (k : ℕ) (t : TrainState) → turns_round (running_in nodes t.decoder) t ≡ false → is_one_way nodes k t ≡ true
straight-on nodes k t h =
    let running : Option Running = running_in nodes t.decoder in
    one-way-of (is_forward running) nodes k t
    (goes-ahead (asked_of nodes t) k t.velocity (keeps-on running t.momentum t.velocity.speed (same_bool t.velocity.forward (is_forward running)) h))

-- a part of a leg
pub leg-straight : (forward : Bool) (nodes : List Node) (k most : ℕ) (t : TrainState) → k ≤ most → runs_only forward nodes most t ≡ true → is_one_way nodes k t ≡ true
leg-straight forward nodes k most t less h =
    let d : Drive = asked_of nodes t in
    let sum : k + (most - k) ≡ most = omega (arith, less) in
    one-way-of forward nodes k t (goes_only-add forward d k (most - k) t.velocity (ap (λ (j : ℕ). goes_only forward d j t.velocity) sum ∙ h)).0

-- The way that a train goes.

pub record OneWay (nodes : List Node) (k : ℕ) (t : TrainState) : Type 0 where
  pub forward : Bool
  pub only : runs_only forward nodes k t ≡ true

pub one-way : (nodes : List Node) (k : ℕ) (t : TrainState) → is_one_way nodes k t ≡ true → OneWay nodes k t
one-way nodes k t h = elim (or_cases (runs_only true nodes k t) (runs_only false nodes k t) h) [
  | inl only ↦ record { forward = true; only = only }
  | inr only ↦ record { forward = false; only = only }
]
