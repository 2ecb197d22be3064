-- Trains of a railway, as their decoders run.
use Rattle.std.proofs.Common.{◌≡◌, ◌≢◌, ℕ, ◌<◌, ◌≤◌, Bool, true, false, inl, inr, List, [], ◌∷◌, Option, Some, None, drop, length, map, refl, ap, sym, subst, ◌∙◌, arith}
use Rattle.std.proofs.lemmas.Bool.{and_from, and_parts, cases_Bool, leb-true}
use Rattle.std.specs.List.{list_all, refill}
use Rattle.std.proofs.lemmas.List.{length-map, take_at}
use Rattle.std.specs.Prelude.{if◌then◌else◌, IsTrue, nat_le}
use Rattle.dcc_packet.specs.declared.steps.Motion.{Motion}
use Rattle.dcc_packet.specs.declared.steps.Motion.TheVariants.{Stop, Emergency, Step}
use Rattle.decoder_node.specs.declared.running.Running.{Running}
use Rattle.layout_core.specs.declared.node.Node.{Node}
use Rattle.motion.specs.Velocity.{is_momentum}
use Rattle.motion.specs.declared.velocity.Momentum.{Momentum}
use Rattle.motion.specs.declared.velocity.Velocity.{Velocity}
use Rattle.refresh_ring.specs.declared.pick.Power.{Power}
use Rattle.refresh_ring.specs.declared.pick.Power.TheVariants.{Off, Running as PowerOn, Paused}
use Rattle.railway.specs.declared.exit.Onward.TheVariants.{BufferStop, Against}
use Rattle.railway.specs.declared.train.Place.{Place}
use Rattle.railway.specs.declared.train.TrainState.{TrainState}
use Rattle.railway.specs.Laws.{asked_of, runs_only, velocity_of, way_of}
use Rattle.railway.specs.Network.{Network, is_sound, marked, onward, switch_at, way_on}
use Rattle.railway.specs.Places.{end_ahead, is_derailed, leading_end, still}
use Rattle.railway.specs.Railway.{is_train, run_in, run_under}
use Rattle.railway.specs.Running.{can_run, is_within, ridden, run_by, run_for}
use Rattle.railway.specs.Trains.{drive_of, is_forward, is_movable, momentum_at, momentum_of, running_in, speed_at, speed_of}
use Rattle.railway.proofs.Keeping.{Kept, marked-whole, train-from, whole-spanned}
use Rattle.railway.proofs.Slow.{ridden-slow, still-slow}
use Rattle.railway.proofs.Riding.{Runs, Same, ridden-rails, ridden-runs, ridden-same, ridden-velocity, same-self, still-movable, with_velocity}
use Rattle.railway.proofs.Runs.{Placed, by-derails, by-reaches, by-stops, parts-of}

-- What a decoder asks for is a speed that a train can have.

speed-slow : (top : ℕ) (motion : Motion) → speed_at top motion ≤ 2199023255552
speed-slow top Stop = omega arith
speed-slow top Emergency = omega arith
speed-slow top (Step steps n) = omega arith

pub asked-slow : (top : ℕ) (running : Option Running) → speed_of top running ≤ 2199023255552
asked-slow top None = omega arith
asked-slow top (Some running) = speed-slow top running.motion

-- it asks the same of a train with the same fields
pub same-drive : (nodes : List Node) (t u : TrainState) → Same t u → asked_of nodes u ≡ asked_of nodes t
same-drive nodes t u same =
    ap (λ (decoder : ℕ). drive_of u (running_in nodes decoder)) same.decoder
    ∙ ap (λ (top : ℕ). drive_of (record u { top = top }) (running_in nodes t.decoder)) same.top
    ∙ ap (λ (m : Option Momentum). drive_of (record t { momentum = m }) (running_in nodes t.decoder)) same.momentum

-- A decoder that is to stop, that stops at once, and that does not.

pub no-momentum : (running : Option Running) (momentum : Option Momentum) → momentum ≡ None → momentum_of running momentum ≡ None
no-momentum running momentum h = ap (λ (m : Option Momentum). momentum_of running m) h ∙ by running where
  at : (motion : Motion) → momentum_at motion None ≡ None
  at Stop = refl
  at Emergency = refl
  at (Step steps n) = refl

  by : (r : Option Running) → momentum_of r None ≡ None
  by None = refl
  by (Some r) = at r.motion

pub stop-momentum : (nodes : List Node) (t : TrainState) (running : Running) (momentum : Momentum) → running_in nodes t.decoder ≡ Some running → running.motion ≡ Stop → t.momentum ≡ Some momentum
    → (asked_of nodes t).momentum ≡ Some momentum
stop-momentum nodes t running momentum runs stop has =
    ap (λ (r : Option Running). momentum_of r t.momentum) runs ∙ ap (λ (m : Motion). momentum_at m t.momentum) stop ∙ has

pub stop-speed : (nodes : List Node) (t : TrainState) (running : Running) → running_in nodes t.decoder ≡ Some running → running.motion ≡ Stop → (asked_of nodes t).speed ≡ 0
stop-speed nodes t running runs stop = ap (λ (r : Option Running). speed_of t.top r) runs ∙ ap (λ (m : Motion). speed_at t.top m) stop

pub some-rates : (found : Option Momentum) (momentum : Momentum) → is_momentum found ≡ true → found ≡ Some momentum → 0 < momentum.braking
some-rates found momentum h g =
    let some : is_momentum (Some momentum) ≡ true = sym (ap (λ (m : Option Momentum). is_momentum m) g) ∙ h in
    leb-true 1 momentum.braking (and_parts (nat_le 1 momentum.acceleration) (nat_le 1 momentum.braking) some).1

pub emergency-momentum : (nodes : List Node) (t : TrainState) (running : Running) → running_in nodes t.decoder ≡ Some running → running.motion ≡ Emergency → (asked_of nodes t).momentum ≡ None
emergency-momentum nodes t running runs stop = ap (λ (r : Option Running). momentum_of r t.momentum) runs ∙ ap (λ (m : Motion). momentum_at m t.momentum) stop

pub emergency-speed : (nodes : List Node) (t : TrainState) (running : Running) → running_in nodes t.decoder ≡ Some running → running.motion ≡ Emergency → (asked_of nodes t).speed ≡ 0
emergency-speed nodes t running runs stop = ap (λ (r : Option Running). speed_of t.top r) runs ∙ ap (λ (m : Motion). speed_at t.top m) stop

pub emergency-forward : (nodes : List Node) (t : TrainState) (running : Running) → running_in nodes t.decoder ≡ Some running → (asked_of nodes t).forward ≡ running.forward
emergency-forward nodes t running runs = ap (λ (r : Option Running). is_forward r) runs

pub keeps-momentum : (nodes : List Node) (t : TrainState) (running : Running) → running_in nodes t.decoder ≡ Some running → running.motion ≢ Emergency → t.momentum ≢ None
    → (momentum : Momentum) × ((asked_of nodes t).momentum ≡ Some momentum)
keeps-momentum nodes t running runs other some =
    let kept = by running.motion t.momentum other some in
    (kept.0, ap (λ (r : Option Running). momentum_of r t.momentum) runs ∙ kept.1) where
      by : (motion : Motion) (momentum : Option Momentum) → motion ≢ Emergency → momentum ≢ None → (m : Momentum) × (momentum_at motion momentum ≡ Some m)
      by Stop None h g = absurd (g refl)
      by Stop (Some m) h g = (m, refl)
      by Emergency momentum h g = absurd (h refl)
      by (Step steps n) None h g = absurd (g refl)
      by (Step steps n) (Some m) h g = (m, refl)

-- A train of a railway is one as it ran.

for-derailed : (n : Network) (micros : ℕ) (running : Option Running) (t : TrainState) → is_derailed t ≡ true → run_for n micros running t ≡ t
for-derailed n micros running t h = ap (λ (b : Bool). if b then t else marked n (ridden n (drive_of t running) micros t)) h

for-rails : (n : Network) (micros : ℕ) (running : Option Running) (t : TrainState) → is_derailed t ≡ false → run_for n micros running t ≡ marked n (ridden n (drive_of t running) micros t)
for-rails n micros running t h = ap (λ (b : Bool). if b then t else marked n (ridden n (drive_of t running) micros t)) h

-- a derailed train stands
pub in-derailed : (n : Network) (micros : ℕ) (nodes : List Node) (t : TrainState) → is_derailed t ≡ true → run_in n micros nodes t ≡ t
in-derailed n micros nodes t h = for-derailed n micros (running_in nodes t.decoder) t h

pub in-itself : (n : Network) (micros : ℕ) (nodes : List Node) (t : TrainState) → is_derailed t ≡ false → run_in n micros nodes t ≡ marked n (ridden n (asked_of nodes t) micros t)
in-itself n micros nodes t h = for-rails n micros (running_in nodes t.decoder) t h

pub in-same : (n : Network) (micros : ℕ) (nodes : List Node) (t : TrainState) → Same t (run_in n micros nodes t)
in-same n micros nodes t = elim (cases_Bool (is_derailed t)) [
  | inl derailed ↦ subst (λ (u : TrainState). Same t u) (sym (in-derailed n micros nodes t derailed)) (same-self t)
  | inr rails ↦
      let there = ridden-same n (asked_of nodes t) micros t in
      let same : Same t (marked n (ridden n (asked_of nodes t) micros t)) = record { decoder = there.decoder; top = there.top; length = there.length; momentum = there.momentum } in
      subst (λ (u : TrainState). Same t u) (sym (in-itself n micros nodes t rails)) same
]

in-train : (n : Network) (micros : ℕ) (nodes : List Node) (t : TrainState) → IsTrue (is_sound n) → is_train n t ≡ true → is_train n (run_in n micros nodes t) ≡ true
in-train n micros nodes t is h = elim (cases_Bool (is_derailed t)) [
  | inl derailed ↦ subst (λ (u : TrainState). is_train n u ≡ true) (sym (in-derailed n micros nodes t derailed)) h
  | inr rails ↦
      let parts = parts-of n t h in
      let there : TrainState = ridden n (asked_of nodes t) micros t in
      let within : is_within n.blocks t ≡ true = and_from _ _ parts.front parts.rear in
      let kept : Kept n t = record { within = within; spanned = whole-spanned n t parts.whole } in
      let start : Runs n t = record { kept = kept; movable = parts.movable } in
      let runs = ridden-runs n (asked_of nodes t) micros t is (asked-slow t.top (running_in nodes t.decoder)) start in
      let size : nat_le 1 there.length ≡ true = ap (λ (l : ℕ). nat_le 1 l) (ridden-same n (asked_of nodes t) micros t).length ∙ parts.size in
      subst (λ (u : TrainState). is_train n u ≡ true) (sym (in-itself n micros nodes t rails))
      (train-from n (marked n there) size runs.kept.within (marked-whole n there runs.kept.spanned) runs.movable
      (ridden-slow n nodes micros n.blocks t (ridden-same n (asked_of nodes t) micros t) parts.slow))
]

-- without power it stands
still-train : (n : Network) (t : TrainState) → is_train n t ≡ true → is_train n (still t) ≡ true
still-train n t h =
    let parts = parts-of n t h in
    train-from n (still t) parts.size (and_from _ _ parts.front parts.rear) parts.whole (still-movable t parts.movable) (still-slow n.blocks t parts.slow)

pub under-train : (p : Power) (n : Network) (micros : ℕ) (nodes : List Node) (t : TrainState) → IsTrue (is_sound n) → is_train n t ≡ true → is_train n (run_under p n micros nodes t) ≡ true
under-train Off n micros nodes t is h = still-train n t h
under-train PowerOn n micros nodes t is h = in-train n micros nodes t is h
under-train Paused n micros nodes t is h = in-train n micros nodes t is h

pub under-length : (p : Power) (n : Network) (micros : ℕ) (nodes : List Node) (t : TrainState) → (run_under p n micros nodes t).length ≡ t.length
under-length Off n micros nodes t = refl
under-length PowerOn n micros nodes t = (in-same n micros nodes t).length
under-length Paused n micros nodes t = (in-same n micros nodes t).length

pub run_all-trains : (p : Power) (n : Network) (micros : ℕ) (nodes : List Node) (ts : List TrainState) → IsTrue (is_sound n) → list_all (is_train n) ts ≡ true → list_all (is_train n) (map (run_under p n micros nodes) ts) ≡ true
run_all-trains p n micros nodes [] is h = refl
run_all-trains p n micros nodes (t ∷ ts) is h =
    let parts = and_parts (is_train n t) (list_all (is_train n) ts) h in
    and_from (is_train n (run_under p n micros nodes t)) (list_all (is_train n) (map (run_under p n micros nodes) ts)) (under-train p n micros nodes t is parts.0) (run_all-trains p n micros nodes ts is parts.1)

-- they are where the trains were before
pub refilled : (f : TrainState → TrainState) (items now new : List TrainState) → now ≡ items → new ≡ map f now → refill (length items) items new ≡ map f items
refilled f items now new same h =
    let ran : new ≡ map f items = h ∙ ap (λ (ts : List TrainState). map f ts) same in
    ap (λ (ts : List TrainState). refill (length items) items ts) ran ∙ take_at (map f items) (drop (length (map f items)) items) (length items) (length-map items f)

pub all-run : (n : Network) (ts : List TrainState) → list_all (is_train n) ts ≡ true → list_all (can_run n.blocks) ts ≡ true
all-run n [] h = refl
all-run n (t ∷ ts) h =
    let all = and_parts (is_train n t) (list_all (is_train n) ts) h in
    let parts = parts-of n t all.0 in
    and_from (can_run n.blocks t) (list_all (can_run n.blocks) ts) (and_from (is_within n.blocks t) (is_movable t) (and_from _ _ parts.front parts.rear) parts.movable) (all-run n ts all.1)

pub all-movable : (n : Network) (ts : List TrainState) → list_all (is_train n) ts ≡ true → list_all is_movable ts ≡ true
all-movable n [] h = refl
all-movable n (t ∷ ts) h =
    let all = and_parts (is_train n t) (list_all (is_train n) ts) h in
    and_from (is_movable t) (list_all is_movable ts) (parts-of n t all.0).movable (all-movable n ts all.1)

-- A train on the rails.

-- a time in which its motor has one direction
pub in-one-way : (n : Network) (forward : Bool) (micros : ℕ) (nodes : List Node) (t : TrainState) → is_derailed t ≡ false → runs_only forward nodes micros t ≡ true
    → run_in n micros nodes t ≡ marked n (run_by n forward (way_of nodes micros t) (with_velocity (velocity_of nodes micros t) t))
in-one-way n forward micros nodes t rails only = in-itself n micros nodes t rails ∙ ap (λ (u : TrainState). marked n u) (ridden-rails n (asked_of nodes t) forward micros t rails only)

-- the end that leads then
with-placed : (n : Network) (v : Velocity) (t : TrainState) → is_train n t ≡ true → Placed n (with_velocity v t)
with-placed n v t h = let parts = parts-of n t h in record { front = parts.front; rear = parts.rear; spanned = whole-spanned n t parts.whole }

pub in-reaches : (n : Network) (forward : Bool) (micros : ℕ) (nodes : List Node) (t : TrainState) (p : Place) → IsTrue (is_sound n) → is_train n t ≡ true → is_derailed t ≡ false → runs_only forward nodes micros t ≡ true
    → way_on n (leading_end forward t) (way_of nodes micros t) ≡ Some p → (leading_end forward (run_in n micros nodes t) ≡ p) × (is_derailed (run_in n micros nodes t) ≡ false)
in-reaches n forward micros nodes t p is h rails only g =
    let v = velocity_of nodes micros t in
    let there = by-reaches n forward (with_velocity v t) p (way_of nodes micros t) is (with-placed n v t h) rails (leads forward v g) in
    let ran = in-one-way n forward micros nodes t rails only in
    (ap (λ (u : TrainState). leading_end forward u) ran ∙ there.0, ap (λ (u : TrainState). is_derailed u) ran ∙ there.1) where
      leads : (f : Bool) (v : Velocity) → way_on n (leading_end f t) (way_of nodes micros t) ≡ Some p → way_on n (leading_end f (with_velocity v t)) (way_of nodes micros t) ≡ Some p
      leads true v g = g
      leads false v g = g

pub in-stops : (n : Network) (forward : Bool) (micros : ℕ) (nodes : List Node) (t : TrainState) (ahead : ℕ) (p : Place) → IsTrue (is_sound n) → is_train n t ≡ true → is_derailed t ≡ false → runs_only forward nodes micros t ≡ true
    → way_on n (leading_end forward t) ahead ≡ Some p → onward n p ≡ BufferStop → ahead ≤ way_of nodes micros t → leading_end forward (run_in n micros nodes t) ≡ p
in-stops n forward micros nodes t ahead p is h rails only g stop less =
    let v = velocity_of nodes micros t in
    ap (λ (u : TrainState). leading_end forward u) (in-one-way n forward micros nodes t rails only)
    ∙ by-stops n forward (with_velocity v t) p ahead (way_of nodes micros t) is (with-placed n v t h) rails (leads forward v g) stop less where
      leads : (f : Bool) (v : Velocity) → way_on n (leading_end f t) ahead ≡ Some p → way_on n (leading_end f (with_velocity v t)) ahead ≡ Some p
      leads true v g = g
      leads false v g = g

pub in-derails : (n : Network) (forward : Bool) (micros : ℕ) (nodes : List Node) (t : TrainState) (ahead : ℕ) (p : Place) → IsTrue (is_sound n) → is_train n t ≡ true → is_derailed t ≡ false → runs_only forward nodes micros t ≡ true
    → way_on n (leading_end forward t) ahead ≡ Some p → onward n p ≡ Against → ahead < way_of nodes micros t → (run_in n micros nodes t).derailed_at ≡ Some (switch_at n.turnouts (end_ahead p))
in-derails n forward micros nodes t ahead p is h rails only g against less =
    let v = velocity_of nodes micros t in
    ap (λ (u : TrainState). u.derailed_at) (in-one-way n forward micros nodes t rails only)
    ∙ by-derails n forward (with_velocity v t) p ahead (way_of nodes micros t) is (with-placed n v t h) rails (leads forward v g) against less where
      leads : (f : Bool) (v : Velocity) → way_on n (leading_end f t) ahead ≡ Some p → way_on n (leading_end f (with_velocity v t)) ahead ≡ Some p
      leads true v g = g
      leads false v g = g

pub in-velocity : (n : Network) (micros : ℕ) (nodes : List Node) (t : TrainState) → is_derailed (run_in n micros nodes t) ≡ false → (run_in n micros nodes t).velocity ≡ velocity_of nodes micros t
in-velocity n micros nodes t h = elim (cases_Bool (is_derailed t)) [
  | inl derailed ↦ absurd (never (sym (ap (λ (u : TrainState). is_derailed u) (in-derailed n micros nodes t derailed) ∙ derailed) ∙ h))
  | inr rails ↦
      let ran = in-itself n micros nodes t rails in
      ap (λ (u : TrainState). u.velocity) ran ∙ ridden-velocity n (asked_of nodes t) micros t (sym (ap (λ (u : TrainState). is_derailed u) ran) ∙ h)
] where
  never : true ≡ false → ⊥
  never e = cc
