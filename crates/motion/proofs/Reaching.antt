-- Speeds that are reached, and standstills.
use Rattle.std.proofs.Common.{◌≡◌, ℕ, zero, suc, ◌+◌, ◌-◌, ◌*◌, ◌/◌, ◌%◌, ◌<◌, ◌≤◌, ◌==◌, ◌||◌, Bool, true, false, inl, inr, Some, None, refl, ap, sym, subst, ◌∙◌, arith}
use Rattle.std.proofs.Math.Nat.{mod-lt, mul-add, mul-suc, mul_comm, suc-mul}
use Rattle.std.proofs.lemmas.Nat.{div-add-mod'}
use Rattle.std.proofs.lemmas.Bool.{cases_Bool, eqb-true}
use Rattle.std.proofs.lemmas.Bool.Decides.{nat_tests}
use Rattle.std.specs.Prelude.{if◌then◌else◌}
use Rattle.motion.specs.declared.velocity.Velocity.{Velocity}
use Rattle.motion.specs.declared.velocity.Momentum.{Momentum}
use Rattle.motion.specs.declared.velocity.Drive.{Drive}
use Rattle.motion.specs.Velocity.{IsStandstillBetween, velocity_after, braking_way, is_facing, velocity, same_bool, speed_in, next_velocity, sum_below, toward, way, way_in}
use Rattle.motion.proofs.Legs.{facing-start}
use Rattle.motion.proofs.Steps.{after-add, after-steady, ahead-facing, same-self, same-true, stepped-facing, stepped-none, stepped-other, sum-half, way-add, way-steady, way-up}

-- Up.

step-next : (d : Drive) (r : Momentum) (v : ℕ) → d.momentum ≡ Some r → next_velocity d (velocity d.forward v) ≡ velocity d.forward (toward r.acceleration r.braking v d.speed)
step-next d r v h = stepped-facing d r (velocity d.forward v) h (ahead-facing d v)

up-next : (a b v t : ℕ) → v ≤ t → (v ≤ toward a b v t) × (toward a b v t ≤ t)
up-next a b v t h = (grind (arith, nat_tests), grind (arith, nat_tests))

down-next : (a b v t : ℕ) → t ≤ v → (t ≤ toward a b v t) × (toward a b v t ≤ v)
down-next a b v t h = (grind (arith, nat_tests), grind (arith, nat_tests))

up-near : (a b v t n : ℕ) → v ≤ t → t ≤ v + suc n * a → t ≤ toward a b v t + n * a
up-near a b v t n h g = let e : suc n * a ≡ n * a + a = suc-mul n a in grind (arith, nat_tests, e)

down-near : (a b v t n : ℕ) → t ≤ v → v ≤ t + suc n * b → toward a b v t ≤ t + n * b
down-near a b v t n h g = let e : suc n * b ≡ n * b + b = suc-mul n b in grind (arith, nat_tests, e)

pub up-reaches : (d : Drive) (r : Momentum) (n v : ℕ) → d.momentum ≡ Some r → v ≤ d.speed → d.speed ≤ v + n * r.acceleration → velocity_after d n (velocity d.forward v) ≡ velocity d.forward d.speed
unfolding velocity_after
up-reaches d r zero v h less near = let e : v ≡ d.speed = omega (arith, less, near) in ap (λ (s : ℕ). velocity d.forward s) e
up-reaches d r (suc n) v h less near =
    ap (λ (m : Velocity). velocity_after d n m) (step-next d r v h)
    ∙ up-reaches d r n (toward r.acceleration r.braking v d.speed) h (up-next r.acceleration r.braking v d.speed less).1 (up-near r.acceleration r.braking v d.speed n less near)

pub down-reaches : (d : Drive) (r : Momentum) (n v : ℕ) → d.momentum ≡ Some r → d.speed ≤ v → v ≤ d.speed + n * r.braking → velocity_after d n (velocity d.forward v) ≡ velocity d.forward d.speed
unfolding velocity_after
down-reaches d r zero v h less near = let e : v ≡ d.speed = omega (arith, less, near) in ap (λ (s : ℕ). velocity d.forward s) e
down-reaches d r (suc n) v h less near =
    ap (λ (m : Velocity). velocity_after d n m) (step-next d r v h)
    ∙ down-reaches d r n (toward r.acceleration r.braking v d.speed) h (down-next r.acceleration r.braking v d.speed less).0 (down-near r.acceleration r.braking v d.speed n less near)

between : (a x y t : ℕ) → a ≤ x → (x ≤ y) × (y ≤ t) → (a ≤ y) × (y ≤ t)
between a x y t h g = (omega (arith, h, g.0), g.1)

pub up-below : (d : Drive) (r : Momentum) (n v : ℕ) → d.momentum ≡ Some r → v ≤ d.speed → (v ≤ (velocity_after d n (velocity d.forward v)).speed) × ((velocity_after d n (velocity d.forward v)).speed ≤ d.speed)
unfolding velocity_after
up-below d r zero v h less = (omega arith, less)
up-below d r (suc n) v h less =
    let s : ℕ = toward r.acceleration r.braking v d.speed in
    let one = up-next r.acceleration r.braking v d.speed less in
    let rest = up-below d r n s h one.1 in
    subst (λ (m : Velocity). (v ≤ (velocity_after d n m).speed) × ((velocity_after d n m).speed ≤ d.speed)) (sym (step-next d r v h))
    (between v s (velocity_after d n (velocity d.forward s)).speed d.speed one.0 rest)

pub down-above : (d : Drive) (r : Momentum) (n v : ℕ) → d.momentum ≡ Some r → d.speed ≤ v → (d.speed ≤ (velocity_after d n (velocity d.forward v)).speed) × ((velocity_after d n (velocity d.forward v)).speed ≤ v)
unfolding velocity_after
down-above d r zero v h less = (less, omega arith)
down-above d r (suc n) v h less =
    let s : ℕ = toward r.acceleration r.braking v d.speed in
    let one = down-next r.acceleration r.braking v d.speed less in
    let rest = down-above d r n s h one.0 in
    subst (λ (m : Velocity). (d.speed ≤ (velocity_after d n m).speed) × ((velocity_after d n m).speed ≤ v)) (sym (step-next d r v h))
    (rest.0, omega (arith, rest.1, one.1))

-- Braking to standstill.

stop-speed : (d : Drive) (r : Momentum) (m : Velocity) → d.momentum ≡ Some r → d.speed ≡ 0 → (next_velocity d m).speed ≡ m.speed - r.braking
stop-speed d r m h stop = elim (cases_Bool (is_facing d m)) [
  | inl facing ↦ ap (λ (k : Velocity). k.speed) (stepped-facing d r m h facing) ∙ ap (λ (t : ℕ). toward r.acceleration r.braking m.speed t) stop ∙ toward-zero r.acceleration r.braking m.speed
  | inr other ↦ ap (λ (k : Velocity). k.speed) (stepped-other d r m h other)
] where
  toward-zero : (a b v : ℕ) → toward a b v 0 ≡ v - b
  toward-zero a b v = grind (arith, nat_tests)

pub record Stops (d : Drive) (n : ℕ) (m : Velocity) (base far : ℕ) : Type 0 where
  pub speed : (velocity_after d n m).speed ≡ base
  pub way : way d n m ≡ far

brake-first : (base n b v : ℕ) → v ≡ base + suc n * b → v - b ≡ base + n * b
brake-first base n b v h = omega (arith, h, suc-mul n b)

brake-sum : (base n b s : ℕ) → base + n * b + (n * base + b * s) ≡ suc n * base + b * (n + s)
brake-sum base n b s = omega (arith, suc-mul n base, mul-add b n s, mul_comm n b)

pub brakes : (d : Drive) (r : Momentum) (n base : ℕ) (m : Velocity) → d.momentum ≡ Some r → d.speed ≡ 0 → m.speed ≡ base + n * r.braking → Stops d n m base (n * base + r.braking * sum_below n)
unfolding velocity_after way sum_below
brakes d r zero base m h stop g = record { speed = omega (arith, g); way = omega (arith, mul_comm r.braking 0) }
brakes d r (suc n) base m h stop g =
    let next : (next_velocity d m).speed ≡ base + n * r.braking = stop-speed d r m h stop ∙ brake-first base n r.braking m.speed g in
    let rest = brakes d r n base (next_velocity d m) h stop next in
    record { speed = rest.speed; way = ap (λ (s : ℕ). s + way d n (next_velocity d m)) next ∙ ap (λ (w : ℕ). base + n * r.braking + w) rest.way ∙ brake-sum base n r.braking (sum_below n) }

-- a train that stands and is to stand
pub stands : (d : Drive) (r : Momentum) (n : ℕ) (m : Velocity) → d.momentum ≡ Some r → d.speed ≡ 0 → m.speed ≤ r.braking → Stops d (suc n) m 0 0
unfolding velocity_after way
stands d r zero m h stop g =
    let none : (next_velocity d m).speed ≡ 0 = stop-speed d r m h stop ∙ omega (arith, g) in
    record { speed = none; way = omega (arith, none) }
stands d r (suc n) m h stop g =
    let none : (next_velocity d m).speed ≡ 0 = stop-speed d r m h stop ∙ omega (arith, g) in
    let rest = stands d r n (next_velocity d m) h stop (omega (arith, none)) in
    record { speed = rest.speed; way = let w : way d (suc n) (next_velocity d m) ≡ 0 = rest.way in omega (arith, none, w) }

nothing : (x : ℕ) → x + 0 ≡ x
nothing x = omega arith

add_comm' : (x y : ℕ) → x + y ≡ y + x
add_comm' x y = omega arith

pub stops : (d : Drive) (r : Momentum) (n : ℕ) (m : Velocity) → d.momentum ≡ Some r → 0 < r.braking → d.speed ≡ 0 → m.speed / r.braking < n → Stops d n m 0 (braking_way m.speed r.braking)
stops d r n m h p stop less =
    let k : ℕ = m.speed / r.braking in
    let whole : m.speed ≡ m.speed % r.braking + k * r.braking = sym (add_comm' (m.speed % r.braking) (k * r.braking) ∙ div-add-mod' m.speed r.braking) in
    let there = brakes d r k (m.speed % r.braking) m h stop whole in
    let small : m.speed % r.braking < r.braking = mod-lt m.speed p in
    let rest = stands d r (n - k - 1) (velocity_after d k m) h stop (omega (arith, there.speed, small)) in
    let time : n ≡ k + suc (n - k - 1) = omega (arith, less) in
    record {
      speed = ap (λ (t : ℕ). (velocity_after d t m).speed) time ∙ ap (λ (x : Velocity). x.speed) (after-add d m k (suc (n - k - 1))) ∙ rest.speed;
      way = ap (λ (t : ℕ). way d t m) time ∙ way-add d m k (suc (n - k - 1)) ∙ ap (λ (w : ℕ). way d k m + w) rest.way
          ∙ nothing (way d k m) ∙ there.way ∙ ap (λ (s : ℕ). k * (m.speed % r.braking) + r.braking * s) (sym (sum-half k));
    }

-- Standstill between.

later : (d : Drive) (n : ℕ) (m : Velocity) → IsStandstillBetween d n (next_velocity d m) → IsStandstillBetween d (suc n) m
unfolding velocity_after
later d n m h = record { moment = suc h.moment; within = omega (arith, h.within); stands = h.stands }

pub stood : (d : Drive) (r : Momentum) (n : ℕ) (m : Velocity) → d.momentum ≡ Some r → same_bool m.forward (velocity_after d n m).forward ≡ false → IsStandstillBetween d n m
unfolding velocity_after
stood d r zero m h turned = absurd (both-ways m.forward turned) where
  both-ways : (b : Bool) → same_bool b b ≡ false → ⊥
  both-ways b e = let s : same_bool b b ≡ true = same-self b in cc
stood d r (suc n) m h turned = elim (cases_Bool (m.speed == 0)) [
  | inl now ↦ record { moment = 0; within = omega arith; stands = eqb-true m.speed 0 now }
  | inr turns ↦ later d n m (stood d r n (next_velocity d m) h (ap (λ (b : Bool). same_bool b (velocity_after d n (next_velocity d m)).forward) (keeps turns) ∙ turned))
] where
  facing-forward : is_facing d m ≡ true → (m.speed == 0) ≡ false → m.forward ≡ d.forward
  facing-forward f turns = same-true m.forward d.forward (second (m.speed == 0) (same_bool m.forward d.forward) f turns) where
    second : (one two : Bool) → (one || two) ≡ true → one ≡ false → two ≡ true
    second true two e g = cc
    second false two e g = e

  keeps : (m.speed == 0) ≡ false → (next_velocity d m).forward ≡ m.forward
  keeps turns = elim (cases_Bool (is_facing d m)) [
    | inl facing ↦ ap (λ (k : Velocity). k.forward) (stepped-facing d r m h facing) ∙ sym (facing-forward facing turns)
    | inr other ↦ ap (λ (k : Velocity). k.forward) (stepped-other d r m h other)
  ]

-- Without momentum.

pub at-once : (d : Drive) (n : ℕ) (m : Velocity) → d.momentum ≡ None → 0 < n → velocity_after d n m ≡ velocity d.forward d.speed
unfolding velocity_after
at-once d zero m h p = absurd (omega (arith, p))
at-once d (suc n) m h p = ap (λ (k : Velocity). velocity_after d n k) (stepped-none d m h) ∙ after-steady d n

pub goes-at-once : (d : Drive) (n : ℕ) (m : Velocity) → d.momentum ≡ None → way d n m ≡ d.speed * n
unfolding way
goes-at-once d zero m h = omega arith
goes-at-once d (suc n) m h =
    ap (λ (k : Velocity). k.speed + way d n k) (stepped-none d m h)
    ∙ ap (λ (w : ℕ). d.speed + w) (way-steady d n) ∙ omega (arith, mul-suc d.speed n)

-- In all.

either-way : (m : Velocity) → m.speed ≡ speed_in true m + speed_in false m
either-way m = by m.forward m.speed where
  by : (f : Bool) (s : ℕ) → s ≡ (if same_bool f true then s else 0) + (if same_bool f false then s else 0)
  by true s = omega arith
  by false s = omega arith

regroup : (a b x y s w : ℕ) → s ≡ a + b → w ≡ x + y → s + w ≡ a + x + (b + y)
regroup a b x y s w h g = omega (arith, h, g)

pub both : (d : Drive) (m : Velocity) (n : ℕ) → way d n m ≡ way_in true d n m + way_in false d n m
unfolding way way_in
both d m zero = refl
both d m (suc n) =
    regroup (speed_in true (next_velocity d m)) (speed_in false (next_velocity d m)) (way_in true d n (next_velocity d m)) (way_in false d n (next_velocity d m)) (next_velocity d m).speed (way d n (next_velocity d m)) (either-way (next_velocity d m)) (both d (next_velocity d m) n)

pub facing-speed : (d : Drive) (m : Velocity) (n : ℕ) → is_facing d m ≡ true → (velocity_after d n m).speed ≡ (velocity_after d n (velocity d.forward m.speed)).speed
unfolding velocity_after
facing-speed d m zero g = refl
facing-speed d m (suc n) g = ap (λ (k : Velocity). (velocity_after d n k).speed) (facing-start d m g)

pub gathers : (d : Drive) (r : Momentum) (n v : ℕ) → d.momentum ≡ Some r → v + n * r.acceleration ≤ d.speed → way d n (velocity d.forward v) ≡ n * v + r.acceleration * (n * (n + 1) / 2)
unfolding sum_below
gathers d r n v h g =
    let more : suc n * (suc n - 1) ≡ n * (n + 1) = let less : suc n - 1 ≡ n = omega arith in ap (λ (k : ℕ). suc n * k) less ∙ omega (arith, suc-mul n n, mul-suc n n, mul-add n n 1) in
    way-up d r n v h g ∙ ap (λ (s : ℕ). n * v + r.acceleration * s) (sym (sum-half (suc n)) ∙ ap (λ (s : ℕ). s / 2) more)
