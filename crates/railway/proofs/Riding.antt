-- Trains run one microsecond after another, and by parts of a time in one direction.
use Rattle.std.proofs.Common.{◌≡◌, ◌⊎◌, ℕ, zero, suc, ◌+◌, ◌-◌, ◌≤◌, Bool, true, false, inl, inr, List, Option, Some, None, refl, ap, sym, subst, ◌∙◌, arith}
use Rattle.std.proofs.lemmas.Bool.{and_from, and_parts, cases_Bool, le-leb, leb-true}
use Rattle.std.proofs.lemmas.Bool.Decides.{nat_tests}
use Rattle.std.specs.Prelude.{if◌then◌else◌, IsTrue, nat_le}
use Rattle.motion.specs.Velocity.{IsLeg, goes_only, is_momentum, next_velocity, next_velocity_by, same_bool, toward, velocity, velocity_after, way}
use Rattle.motion.specs.declared.leg.Leg.{Leg}
use Rattle.motion.specs.declared.velocity.Drive.{Drive}
use Rattle.motion.specs.declared.velocity.Momentum.{Momentum}
use Rattle.motion.specs.declared.velocity.Velocity.{Velocity}
use Rattle.railway.specs.declared.exit.Onward.{Onward}
use Rattle.railway.specs.declared.exit.Onward.TheVariants.{To, BufferStop, Against}
use Rattle.railway.specs.declared.train.TrainState.{TrainState}
use Rattle.railway.specs.Network.{Network, is_sound, onward, run_on, step, stepped, switch_at}
use Rattle.railway.specs.Places.{end_ahead, is_derailed, still, turned}
use Rattle.railway.specs.Running.{moved_at, ridden, rode, run_by}
use Rattle.railway.specs.Trains.{is_movable}
use Rattle.railway.proofs.Facts.{not-both}
use Rattle.railway.proofs.Keeping.{Kept, by-step, run_by-kept}
use Rattle.railway.proofs.Runs.{by-derailed, turned-back}
use Rattle.railway.proofs.Ways.{run_on-add, step-derailed, step-onward}

-- A train of another velocity.

abbrev pub with_velocity : Velocity → TrainState → TrainState
with_velocity v t = record t { velocity = v }

-- A part of a way, and the rest.

pub by-by : (n : Network) (forward : Bool) (these those : ℕ) (t : TrainState) → run_by n forward those (run_by n forward these t) ≡ run_by n forward (these + those) t
by-by n true these those t = sym (run_on-add n t these those)
by-by n false these those t =
    ap (λ (u : TrainState). turned (run_on n u those)) (turned-back (run_on n (turned t) these)) ∙ ap (λ (u : TrainState). turned u) (sym (run_on-add n (turned t) these those))

-- A train that moves, or is derailed.

pub moved-derailed : (n : Network) (v : Velocity) (way : ℕ) (t : TrainState) → is_derailed t ≡ true → moved_at n v way t ≡ t
moved-derailed n v way t h = ap (λ (b : Bool). if b then t else run_by n v.forward way (record t { velocity = v })) h

pub moved-rails : (n : Network) (v : Velocity) (way : ℕ) (t : TrainState) → is_derailed t ≡ false → moved_at n v way t ≡ run_by n v.forward way (record t { velocity = v })
moved-rails n v way t h = ap (λ (b : Bool). if b then t else run_by n v.forward way (record t { velocity = v })) h

pub moved-by : (P : TrainState → Type 0) (n : Network) (v : Velocity) (way : ℕ) (t : TrainState) → P t → (is_derailed t ≡ false → P (run_by n v.forward way (record t { velocity = v }))) → P (moved_at n v way t)
moved-by P n v way t stands goes = elim (cases_Bool (is_derailed t)) [
  | inl h ↦ subst P (sym (moved-derailed n v way t h)) stands
  | inr h ↦ subst P (sym (moved-rails n v way t h)) (goes h)
]

-- what a microsecond keeps, a time keeps
pub ridden-keeps : (P : TrainState → Type 0) (n : Network) (d : Drive) (k : ℕ) (t : TrainState) → ((u : TrainState) → P u → P (rode n d u)) → P t → P (ridden n d k t)
unfolding ridden
ridden-keeps P n d zero t one h = h
ridden-keeps P n d (suc k) t one h = ridden-keeps P n d k (rode n d t) one (one t h)

pub ridden-derailed : (n : Network) (d : Drive) (k : ℕ) (t : TrainState) → is_derailed t ≡ true → ridden n d k t ≡ t
unfolding ridden
ridden-derailed n d zero t h = refl
ridden-derailed n d (suc k) t h =
    ap (λ (u : TrainState). ridden n d k u) (moved-derailed n (next_velocity d t.velocity) (next_velocity d t.velocity).speed t h) ∙ ridden-derailed n d k t h

pub ridden-add : (n : Network) (d : Drive) (t : TrainState) (a b : ℕ) → ridden n d (a + b) t ≡ ridden n d b (ridden n d a t)
unfolding ridden
ridden-add n d t zero b = let e : zero + b ≡ b = omega arith in rw e refl
ridden-add n d t (suc a) b = let e : suc a + b ≡ suc (a + b) = omega arith in rw e (ridden-add n d (rode n d t) a b)

-- What stays of a train.

pub record Same (t u : TrainState) : Type 0 where
  pub decoder : u.decoder ≡ t.decoder
  pub top : u.top ≡ t.top
  pub length : u.length ≡ t.length
  pub momentum : u.momentum ≡ t.momentum

pub same-self : (t : TrainState) → Same t t
same-self t = record { decoder = refl; top = refl; length = refl; momentum = refl }

same-same : (t u w : TrainState) → Same t u → Same u w → Same t w
same-same t u w h g = record { decoder = g.decoder ∙ h.decoder; top = g.top ∙ h.top; length = g.length ∙ h.length; momentum = g.momentum ∙ h.momentum }

step-same : (n : Network) (t : TrainState) → Same t (step n t)
step-same n t =
    by-step (λ (u : TrainState). Same t u) n t (same-self t) (λ _. record { decoder = refl; top = refl; length = refl; momentum = refl })
    (λ front rear rails f r. record { decoder = refl; top = refl; length = refl; momentum = refl })

run-same : (n : Network) (t : TrainState) (way : ℕ) → Same t (run_on n t way)
unfolding run_on
run-same n t zero = same-self t
run-same n t (suc way) = same-same t (step n t) (run_on n (step n t) way) (step-same n t) (run-same n (step n t) way)

by-same : (n : Network) (forward : Bool) (way : ℕ) (t : TrainState) → Same t (run_by n forward way t)
by-same n true way t = run-same n t way
by-same n false way t =
    let back = run-same n (turned t) way in
    record { decoder = back.decoder; top = back.top; length = back.length; momentum = back.momentum }

moved-same : (n : Network) (v : Velocity) (way : ℕ) (t : TrainState) → Same t (moved_at n v way t)
moved-same n v way t =
    moved-by (λ (u : TrainState). Same t u) n v way t (same-self t)
    (λ _. let there = by-same n v.forward way (record t { velocity = v }) in
    record { decoder = there.decoder; top = there.top; length = there.length; momentum = there.momentum })

pub ridden-same : (n : Network) (d : Drive) (k : ℕ) (t : TrainState) → Same t (ridden n d k t)
ridden-same n d k t =
    ridden-keeps (λ (u : TrainState). Same t u) n d k t
    (λ u h. same-same t u (rode n d u) h (moved-same n (next_velocity d u.velocity) (next_velocity d u.velocity).speed u)) (same-self t)

-- A speed that a train can have.

step-slow : (n : Network) (t : TrainState) (most : ℕ) → t.velocity.speed ≤ most → (step n t).velocity.speed ≤ most
step-slow n t most h = by-step (λ (u : TrainState). u.velocity.speed ≤ most) n t h (λ _. omega arith) (λ front rear rails f r. h)

run-slow : (n : Network) (t : TrainState) (way most : ℕ) → t.velocity.speed ≤ most → (run_on n t way).velocity.speed ≤ most
unfolding run_on
run-slow n t zero most h = h
run-slow n t (suc way) most h = run-slow n (step n t) way most (step-slow n t most h)

pub by-slow : (n : Network) (forward : Bool) (way most : ℕ) (t : TrainState) → t.velocity.speed ≤ most → (run_by n forward way t).velocity.speed ≤ most
by-slow n true way most t h = run-slow n t way most h
by-slow n false way most t h = run-slow n (turned t) way most h

pub record Movable (t : TrainState) : Type 0 where
  pub slow : t.velocity.speed ≤ 2199023255552
  pub rates : is_momentum t.momentum ≡ true

pub movable-of : (t : TrainState) → is_movable t ≡ true → Movable t
movable-of t h =
    let all = and_parts (nat_le t.velocity.speed 2199023255552) (is_momentum t.momentum) h in
    record { slow = leb-true t.velocity.speed 2199023255552 all.0; rates = all.1 }

pub movable-from : (t : TrainState) → Movable t → is_movable t ≡ true
movable-from t h =
    and_from (nat_le t.velocity.speed 2199023255552) (is_momentum t.momentum) (le-leb t.velocity.speed 2199023255552 h.slow) h.rates

-- a train with the fields of another, and slow
same-movable : (t u : TrainState) → Same t u → Movable t → u.velocity.speed ≤ 2199023255552 → Movable u
same-movable t u same h slow = record {
  slow = slow;
  rates = ap (λ (m : Option Momentum). is_momentum m) same.momentum ∙ h.rates;
}

pub run-movable : (n : Network) (t : TrainState) (way : ℕ) → is_movable t ≡ true → is_movable (run_on n t way) ≡ true
run-movable n t way h =
    let is = movable-of t h in
    movable-from (run_on n t way) (same-movable t (run_on n t way) (run-same n t way) is (run-slow n t way 2199023255552 is.slow))

pub set-movable : (v : Velocity) (t : TrainState) → v.speed ≤ 2199023255552 → is_movable t ≡ true → is_movable (with_velocity v t) ≡ true
set-movable v t slow h = let is = movable-of t h in movable-from (with_velocity v t) (record { slow = slow; rates = is.rates })

pub moved-movable : (n : Network) (v : Velocity) (way : ℕ) (t : TrainState) → v.speed ≤ 2199023255552 → is_movable t ≡ true → is_movable (moved_at n v way t) ≡ true
moved-movable n v way t slow h =
    let is = movable-of t h in
    moved-by (λ (u : TrainState). is_movable u ≡ true) n v way t h
    (λ _. let u : TrainState = record t { velocity = v } in
    let there : Movable u = record { slow = slow; rates = is.rates } in
    movable-from (run_by n v.forward way u) (same-movable u (run_by n v.forward way u) (by-same n v.forward way u) there (by-slow n v.forward way 2199023255552 u slow)))

pub still-movable : (t : TrainState) → is_movable t ≡ true → is_movable (still t) ≡ true
still-movable t h = let is = movable-of t h in movable-from (still t) (record { slow = omega arith; rates = is.rates })

toward-slow : (a b s t : ℕ) → s ≤ 2199023255552 → t ≤ 2199023255552 → toward a b s t ≤ 2199023255552
toward-slow a b s t h g = grind (arith, nat_tests)

next-slow : (d : Drive) (v : Velocity) → d.speed ≤ 2199023255552 → v.speed ≤ 2199023255552 → (next_velocity d v).speed ≤ 2199023255552
next-slow d v h g = by d.momentum where
  eased-slow : (r : Momentum) (facing : Bool)
      → (if facing then velocity d.forward (toward r.acceleration r.braking v.speed d.speed) else velocity v.forward (v.speed - r.braking)).speed ≤ 2199023255552
  eased-slow r true = toward-slow r.acceleration r.braking v.speed d.speed g h
  eased-slow r false = omega (arith, g)

  by : (o : Option Momentum) → (next_velocity_by o d v).speed ≤ 2199023255552
  by None = h
  by (Some r) = eased-slow r _

-- What holds of a train that runs.

pub record Runs (n : Network) (t : TrainState) : Type 0 where
  pub kept : Kept n t
  pub movable : is_movable t ≡ true

moved-runs : (n : Network) (v : Velocity) (way : ℕ) (t : TrainState) → IsTrue (is_sound n) → v.speed ≤ 2199023255552 → Runs n t → Runs n (moved_at n v way t)
moved-runs n v way t is slow h =
    let there : Kept n (record t { velocity = v }) = record { within = h.kept.within; spanned = h.kept.spanned } in
    record {
      kept = moved-by (Kept n) n v way t h.kept (λ _. run_by-kept n v.forward way (record t { velocity = v }) is there);
      movable = moved-movable n v way t slow h.movable;
    }

pub ridden-runs : (n : Network) (d : Drive) (k : ℕ) (t : TrainState) → IsTrue (is_sound n) → d.speed ≤ 2199023255552 → Runs n t → Runs n (ridden n d k t)
ridden-runs n d k t is slow h =
    ridden-keeps (Runs n) n d k t
    (λ u g. moved-runs n (next_velocity d u.velocity) (next_velocity d u.velocity).speed u is (next-slow d u.velocity slow (movable-of u g.movable).slow) g) h

-- What a train knows of its blocks does not change how it runs.

abbrev pub with_under : List Bool → TrainState → TrainState
with_under m t = record t { under = m }

stepped-under : (n : Network) (t : TrainState) (m : List Bool) (front rear : Onward) → stepped n (with_under m t) front rear ≡ with_under m (stepped n t front rear)
stepped-under n t m (To front) (To rear) = refl
stepped-under n t m (To front) BufferStop = refl
stepped-under n t m (To front) Against = refl
stepped-under n t m BufferStop rear = refl
stepped-under n t m Against rear = refl

either-under : (b : Bool) (t u : TrainState) (m : List Bool) → (if b then with_under m t else with_under m u) ≡ with_under m (if b then t else u)
either-under true t u m = refl
either-under false t u m = refl

step-under : (n : Network) (t : TrainState) (m : List Bool) → step n (with_under m t) ≡ with_under m (step n t)
step-under n t m =
    ap (λ (u : TrainState). if is_derailed t then with_under m t else u) (stepped-under n t m (onward n t.front) (onward n t.rear))
    ∙ either-under (is_derailed t) t (stepped n t (onward n t.front) (onward n t.rear)) m

run-under : (n : Network) (t : TrainState) (m : List Bool) (way : ℕ) → run_on n (with_under m t) way ≡ with_under m (run_on n t way)
unfolding run_on
run-under n t m zero = refl
run-under n t m (suc way) = ap (λ (u : TrainState). run_on n u way) (step-under n t m) ∙ run-under n (step n t) m way

pub by-under : (n : Network) (f : Bool) (way : ℕ) (t : TrainState) (m : List Bool) → run_by n f way (with_under m t) ≡ with_under m (run_by n f way t)
by-under n true way t m = run-under n t m way
by-under n false way t m = ap (λ (u : TrainState). turned u) (run-under n (turned t) m way)

moved-under : (n : Network) (v : Velocity) (way : ℕ) (t : TrainState) (m : List Bool) → moved_at n v way (with_under m t) ≡ with_under m (moved_at n v way t)
moved-under n v way t m =
    ap (λ (u : TrainState). if is_derailed t then with_under m t else u) (by-under n v.forward way (with_velocity v t) m)
    ∙ either-under (is_derailed t) t (run_by n v.forward way (with_velocity v t)) m

pub ridden-under : (n : Network) (d : Drive) (k : ℕ) (t : TrainState) (m : List Bool) → ridden n d k (with_under m t) ≡ with_under m (ridden n d k t)
unfolding ridden
ridden-under n d zero t m = refl
ridden-under n d (suc k) t m =
    ap (λ (u : TrainState). ridden n d k u) (moved-under n (next_velocity d t.velocity) (next_velocity d t.velocity).speed t m) ∙ ridden-under n d k (rode n d t) m

-- Two trains that differ in their speed alone, or are the same derailed train.

record Goes (v w : Velocity) (t u : TrainState) : Type 0 where
  rails : is_derailed t ≡ false
  speed : t.velocity ≡ v
  same : u ≡ record t { velocity = w }

record Stands (t u : TrainState) : Type 0 where
  derailed : is_derailed t ≡ true
  same : u ≡ t

abbrev Alike : (v w : Velocity) → (t u : TrainState) → Type 0
Alike v w t u = Goes v w t u ⊎ Stands t u

stepped-alike : (n : Network) (v w : Velocity) (t : TrainState) (front rear : Onward) → v.forward ≡ w.forward → is_derailed t ≡ false → t.velocity ≡ v
    → Alike v w (stepped n t front rear) (stepped n (record t { velocity = w }) front rear)
stepped-alike n v w t (To front) (To rear) way rails is = inl (record { rails = rails; speed = is; same = refl })
stepped-alike n v w t (To front) BufferStop way rails is = inl (record { rails = rails; speed = is; same = refl })
stepped-alike n v w t (To front) Against way rails is = inl (record { rails = rails; speed = is; same = refl })
stepped-alike n v w t BufferStop rear way rails is = inl (record { rails = rails; speed = is; same = refl })
stepped-alike n v w t Against rear way rails is =
    let forward : w.forward ≡ t.velocity.forward = sym way ∙ sym (ap (λ (x : Velocity). x.forward) is) in
    inr (record {
      derailed = refl;
      same = ap (λ (f : Bool). record t { velocity = velocity f 0; derailed_at = Some (switch_at n.turnouts (end_ahead t.front)) }) forward;
    })

step-alike : (n : Network) (v w : Velocity) (t u : TrainState) → v.forward ≡ w.forward → Alike v w t u → Alike v w (step n t) (step n u)
step-alike n v w t u way (inl h) =
    let front = onward n t.front in
    let rear = onward n t.rear in
    let one : step n t ≡ stepped n t front rear = step-onward n t front rear h.rails refl refl in
    let two : step n u ≡ stepped n (record t { velocity = w }) front rear =
    ap (λ (x : TrainState). step n x) h.same ∙ step-onward n (record t { velocity = w }) front rear h.rails refl refl in
    subst (λ (x : TrainState). Alike v w x (step n u)) (sym one)
    (subst (λ (x : TrainState). Alike v w (stepped n t front rear) x) (sym two) (stepped-alike n v w t front rear way h.rails h.speed))
step-alike n v w t u way (inr h) =
    let one : step n t ≡ t = step-derailed n t h.derailed in
    let two : step n u ≡ t = ap (λ (x : TrainState). step n x) h.same ∙ one in
    inr (record { derailed = ap (λ (x : TrainState). is_derailed x) one ∙ h.derailed; same = two ∙ sym one })

run-alike : (n : Network) (v w : Velocity) (t u : TrainState) (k : ℕ) → v.forward ≡ w.forward → Alike v w t u → Alike v w (run_on n t k) (run_on n u k)
unfolding run_on
run-alike n v w t u zero way h = h
run-alike n v w t u (suc k) way h = run-alike n v w (step n t) (step n u) k way (step-alike n v w t u way h)

turned-alike : (v w : Velocity) (t u : TrainState) → Alike v w t u → Alike v w (turned t) (turned u)
turned-alike v w t u (inl h) = inl (record { rails = h.rails; speed = h.speed; same = ap (λ (x : TrainState). turned x) h.same })
turned-alike v w t u (inr h) = inr (record { derailed = h.derailed; same = ap (λ (x : TrainState). turned x) h.same })

by-alike : (n : Network) (forward : Bool) (v w : Velocity) (t u : TrainState) (k : ℕ) → v.forward ≡ w.forward → Alike v w t u → Alike v w (run_by n forward k t) (run_by n forward k u)
by-alike n true v w t u k way h = run-alike n v w t u k way h
by-alike n false v w t u k way h =
    turned-alike v w (run_on n (turned t) k) (run_on n (turned u) k) (run-alike n v w (turned t) (turned u) k way (turned-alike v w t u h))

-- A train that is not derailed was not derailed before.

pub rails-before : (n : Network) (d : Drive) (k : ℕ) (t : TrainState) → is_derailed (ridden n d k t) ≡ false → is_derailed t ≡ false
rails-before n d k t h = elim (cases_Bool (is_derailed t)) [
  | inl derailed ↦ absurd (not-both (is_derailed t) derailed (sym (ap (λ (u : TrainState). is_derailed u) (ridden-derailed n d k t derailed)) ∙ h))
  | inr rails ↦ rails
]

started : (n : Network) (v : Velocity) (way : ℕ) (t : TrainState) → is_derailed (moved_at n v way t) ≡ false → is_derailed t ≡ false
started n v way t h = elim (cases_Bool (is_derailed t)) [
  | inl derailed ↦ absurd (not-both (is_derailed t) derailed (sym (ap (λ (u : TrainState). is_derailed u) (moved-derailed n v way t derailed)) ∙ h))
  | inr rails ↦ rails
]

-- A part of a time in one direction.

same-true : (one two : Bool) → same_bool one two ≡ true → one ≡ two
same-true true true h = refl
same-true true false h = cc
same-true false true h = cc
same-true false false h = refl

goes-last : (f : Bool) (d : Drive) (k : ℕ) (v : Velocity) → goes_only f d (suc k) v ≡ true → (velocity_after d (suc k) v).forward ≡ f
unfolding velocity_after goes_only
goes-last f d zero v h = same-true (next_velocity d v).forward f (and_parts (same_bool (next_velocity d v).forward f) true h).0
goes-last f d (suc k) v h =
    let next : Velocity = next_velocity d v in
    goes-last f d k next (and_parts (same_bool next.forward f) (goes_only f d (suc k) next) h).1

ridden-leg : (n : Network) (d : Drive) (f : Bool) (k : ℕ) (t : TrainState) → is_derailed t ≡ false → goes_only f d (suc k) t.velocity ≡ true
    → ridden n d (suc k) t ≡ run_by n f (way d (suc k) t.velocity) (with_velocity (velocity_after d (suc k) t.velocity) t)
unfolding ridden velocity_after way goes_only
ridden-leg n d f zero t rails h =
    let next : Velocity = next_velocity d t.velocity in
    let turns : next.forward ≡ f = same-true next.forward f (and_parts (same_bool next.forward f) true h).0 in
    let all : next.speed ≡ next.speed + 0 = omega arith in
    moved-rails n next next.speed t rails
    ∙ ap (λ (g : Bool). run_by n g next.speed (with_velocity next t)) turns
    ∙ ap (λ (w : ℕ). run_by n f w (with_velocity next t)) all
ridden-leg n d f (suc k) t rails h =
    let next : Velocity = next_velocity d t.velocity in
    let parts = and_parts (same_bool next.forward f) (goes_only f d (suc k) next) h in
    let turns : next.forward ≡ f = same-true next.forward f parts.0 in
    let last : Velocity = velocity_after d (suc k) next in
    let rest : ℕ = way d (suc k) next in
    let here : TrainState = run_by n f next.speed (with_velocity next t) in
    let there : TrainState = run_by n f next.speed (with_velocity last t) in
    let first : rode n d t ≡ here = moved-rails n next next.speed t rails ∙ ap (λ (g : Bool). run_by n g next.speed (with_velocity next t)) turns in
    let start : Alike next last (with_velocity next t) (with_velocity last t) = inl (record { rails = rails; speed = refl; same = refl }) in
    ap (λ (u : TrainState). ridden n d (suc k) u) first
    ∙ (elim (by-alike n f next last (with_velocity next t) (with_velocity last t) next.speed (turns ∙ sym (goes-last f d k next parts.1)) start) [
      | inl goes ↦
          ridden-leg n d f k here goes.rails (ap (λ (v : Velocity). goes_only f d (suc k) v) goes.speed ∙ parts.1)
          ∙ ap (λ (v : Velocity). run_by n f (way d (suc k) v) (with_velocity (velocity_after d (suc k) v) here)) goes.speed
          ∙ ap (λ (u : TrainState). run_by n f rest u) (sym goes.same)
      | inr stands ↦
          ridden-derailed n d (suc k) here stands.derailed
          ∙ sym (by-derailed n f rest here stands.derailed)
          ∙ ap (λ (u : TrainState). run_by n f rest u) (sym stands.same)
    ])
    ∙ by-by n f next.speed rest (with_velocity last t)

-- the velocity of a train that is not derailed
by-velocity : (n : Network) (f : Bool) (k : ℕ) (t : TrainState) → is_derailed t ≡ false → is_derailed (run_by n f k t) ≡ false → (run_by n f k t).velocity ≡ t.velocity
by-velocity n f k t rails there = elim (by-alike n f t.velocity t.velocity t t k refl (inl (record { rails = rails; speed = refl; same = refl }))) [
  | inl goes ↦ goes.speed
  | inr stands ↦ absurd (not-both (is_derailed (run_by n f k t)) stands.derailed there)
]

pub ridden-velocity : (n : Network) (d : Drive) (k : ℕ) (t : TrainState) → is_derailed (ridden n d k t) ≡ false → (ridden n d k t).velocity ≡ velocity_after d k t.velocity
unfolding ridden velocity_after
ridden-velocity n d zero t h = refl
ridden-velocity n d (suc k) t h =
    let next : Velocity = next_velocity d t.velocity in
    let u : TrainState = rode n d t in
    let rails : is_derailed u ≡ false = rails-before n d k u h in
    let start : is_derailed t ≡ false = started n next next.speed t rails in
    let moved : u ≡ run_by n next.forward next.speed (with_velocity next t) = moved-rails n next next.speed t start in
    let there : u.velocity ≡ next =
    ap (λ (x : TrainState). x.velocity) moved
    ∙ by-velocity n next.forward next.speed (with_velocity next t) start (sym (ap (λ (x : TrainState). is_derailed x) moved) ∙ rails) in
    ridden-velocity n d k u h ∙ ap (λ (v : Velocity). velocity_after d k v) there

pub run_by-zero : (n : Network) (f : Bool) (t : TrainState) → t ≡ run_by n f 0 t
unfolding run_on
run_by-zero n true t = refl
run_by-zero n false t = sym (turned-back t)

-- a time in one direction, of a train on the rails
pub ridden-rails : (n : Network) (d : Drive) (f : Bool) (k : ℕ) (t : TrainState) → is_derailed t ≡ false → goes_only f d k t.velocity ≡ true
    → ridden n d k t ≡ run_by n f (way d k t.velocity) (with_velocity (velocity_after d k t.velocity) t)
unfolding ridden velocity_after way
ridden-rails n d f zero t rails h = run_by-zero n f t
ridden-rails n d f (suc k) t rails h = ridden-leg n d f k t rails h

-- and of any train
pub ridden-moved : (n : Network) (d : Drive) (k : ℕ) (t : TrainState) → goes_only (velocity_after d k t.velocity).forward d k t.velocity ≡ true
    → ridden n d k t ≡ moved_at n (velocity_after d k t.velocity) (way d k t.velocity) t
ridden-moved n d k t h = elim (cases_Bool (is_derailed t)) [
  | inl derailed ↦ ridden-derailed n d k t derailed ∙ sym (moved-derailed n (velocity_after d k t.velocity) (way d k t.velocity) t derailed)
  | inr rails ↦ ridden-rails n d (velocity_after d k t.velocity).forward k t rails h ∙ sym (moved-rails n (velocity_after d k t.velocity) (way d k t.velocity) t rails)
]

-- the first part of a time, and the rest
leg-ridden : (n : Network) (d : Drive) (t : TrainState) (micros : ℕ) (leg : Leg) → IsLeg d t.velocity micros leg → moved_at n leg.velocity leg.way t ≡ ridden n d leg.micros t
leg-ridden n d t micros leg h =
    ap (λ (w : ℕ). moved_at n leg.velocity w t) h.far
    ∙ ap (λ (v : Velocity). moved_at n v (way d leg.micros t.velocity) t) h.reached
    ∙ sym (ridden-moved n d leg.micros t (subst (λ (v : Velocity). goes_only v.forward d leg.micros t.velocity ≡ true) h.reached h.one_way))

pub leg-rest : (n : Network) (d : Drive) (t : TrainState) (micros : ℕ) (leg : Leg) → IsLeg d t.velocity micros leg → ridden n d (micros - leg.micros) (moved_at n leg.velocity leg.way t) ≡ ridden n d micros t
leg-rest n d t micros leg h =
    let whole : micros ≡ leg.micros + (micros - leg.micros) = omega (arith, h.part) in
    ap (λ (u : TrainState). ridden n d (micros - leg.micros) u) (leg-ridden n d t micros leg h)
    ∙ sym (ridden-add n d t leg.micros (micros - leg.micros)) ∙ ap (λ (k : ℕ). ridden n d k t) (sym whole)
