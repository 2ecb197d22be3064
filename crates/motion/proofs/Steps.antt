-- How a train gathers speed and brakes, in closed form.
use Rattle.std.proofs.Common.{◌≡◌, ℕ, zero, suc, ◌+◌, ◌-◌, ◌*◌, ◌/◌, ◌<◌, ◌≤◌, ◌==◌, ◌||◌, Bool, true, false, Option, Some, None, refl, ap, sym, ◌∙◌, arith}
use Rattle.std.proofs.Math.Nat.{suc-mul, mul-suc, mul-add, mul_comm}
use Rattle.std.proofs.lemmas.Bool.Decides.{nat_tests}
use Rattle.std.specs.Prelude.{if◌then◌else◌}
use Rattle.motion.specs.declared.velocity.Velocity.{Velocity}
use Rattle.motion.specs.declared.velocity.Momentum.{Momentum}
use Rattle.motion.specs.declared.velocity.Drive.{Drive}
use Rattle.motion.specs.Velocity.{velocity_after, is_facing, velocity, same_bool, speed_in, next_velocity, next_velocity_by, sum_below, toward, way, way_in}

-- Booleans.

pub same-self : (b : Bool) → same_bool b b ≡ true
same-self true = refl
same-self false = refl

pub same-true : (one two : Bool) → same_bool one two ≡ true → one ≡ two
same-true true true h = refl
same-true true false h = cc
same-true false true h = cc
same-true false false h = refl

or-right-true : (one two : Bool) → two ≡ true → (one || two) ≡ true
or-right-true true two h = refl
or-right-true false two h = h

-- Times add up.

pub after-add : (d : Drive) (m : Velocity) (a b : ℕ) → velocity_after d (a + b) m ≡ velocity_after d b (velocity_after d a m)
unfolding velocity_after
after-add d m zero b = let e : zero + b ≡ b = omega arith in rw e refl
after-add d m (suc a) b = let e : suc a + b ≡ suc (a + b) = omega arith in rw e (after-add d (next_velocity d m) a b)

add-in : (x y z w : ℕ) → y ≡ z + w → x + y ≡ x + z + w
add-in x y z w h = omega arith

pub way-add : (d : Drive) (m : Velocity) (a b : ℕ) → way d (a + b) m ≡ way d a m + way d b (velocity_after d a m)
unfolding velocity_after way
way-add d m zero b = let e : zero + b ≡ b = omega arith in rw e (omega arith)
way-add d m (suc a) b =
    let e : suc a + b ≡ suc (a + b) = omega arith in
    rw e (add-in (next_velocity d m).speed (way d (a + b) (next_velocity d m)) (way d a (next_velocity d m)) (way d b (velocity_after d a (next_velocity d m))) (way-add d (next_velocity d m) a b))

pub way_in-add : (f : Bool) (d : Drive) (m : Velocity) (a b : ℕ) → way_in f d (a + b) m ≡ way_in f d a m + way_in f d b (velocity_after d a m)
unfolding velocity_after way_in
way_in-add f d m zero b = let e : zero + b ≡ b = omega arith in rw e (omega arith)
way_in-add f d m (suc a) b =
    let e : suc a + b ≡ suc (a + b) = omega arith in
    rw e (add-in (speed_in f (next_velocity d m)) (way_in f d (a + b) (next_velocity d m)) (way_in f d a (next_velocity d m)) (way_in f d b (velocity_after d a (next_velocity d m))) (way_in-add f d (next_velocity d m) a b))

-- One microsecond.

pub stepped-none : (d : Drive) (m : Velocity) → d.momentum ≡ None → next_velocity d m ≡ velocity d.forward d.speed
stepped-none d m h = ap (λ (o : Option Momentum). next_velocity_by o d m) h

pub stepped-facing : (d : Drive) (r : Momentum) (m : Velocity) → d.momentum ≡ Some r → is_facing d m ≡ true → next_velocity d m ≡ velocity d.forward (toward r.acceleration r.braking m.speed d.speed)
stepped-facing d r m h g =
    ap (λ (o : Option Momentum). next_velocity_by o d m) h
    ∙ ap (λ (b : Bool). if b then velocity d.forward (toward r.acceleration r.braking m.speed d.speed) else velocity m.forward (m.speed - r.braking)) g

pub stepped-other : (d : Drive) (r : Momentum) (m : Velocity) → d.momentum ≡ Some r → is_facing d m ≡ false → next_velocity d m ≡ velocity m.forward (m.speed - r.braking)
stepped-other d r m h g =
    ap (λ (o : Option Momentum). next_velocity_by o d m) h
    ∙ ap (λ (b : Bool). if b then velocity d.forward (toward r.acceleration r.braking m.speed d.speed) else velocity m.forward (m.speed - r.braking)) g

pub ahead-facing : (d : Drive) (v : ℕ) → is_facing d (velocity d.forward v) ≡ true
ahead-facing d v = or-right-true (v == 0) (same_bool d.forward d.forward) (same-self d.forward)

pub toward-up : (a b v t : ℕ) → v + a ≤ t → toward a b v t ≡ v + a
toward-up a b v t h = grind (arith, nat_tests)

pub toward-top : (a b v t : ℕ) → v ≤ t → t ≤ v + a → toward a b v t ≡ t
toward-top a b v t h g = grind (arith, nat_tests)

pub toward-down : (a b v t : ℕ) → 0 < b → t ≤ v → toward a b (v + b) t ≡ v
toward-down a b v t p h = grind (arith, nat_tests)

pub toward-bottom : (a b v t : ℕ) → t < v → v ≤ t + b → toward a b v t ≡ t
toward-bottom a b v t h g = grind (arith, nat_tests)

-- Even steps up.

shift-up : (v n r : ℕ) → v + suc n * r ≡ v + r + n * r
shift-up v n r = omega (arith, suc-mul n r)

fits-first : (v n r t : ℕ) → v + suc n * r ≤ t → v + r ≤ t
fits-first v n r t h = omega (arith, suc-mul n r)

fits-rest : (v n r t : ℕ) → v + suc n * r ≤ t → v + r + n * r ≤ t
fits-rest v n r t h = omega (arith, suc-mul n r)

pub stepped-up : (d : Drive) (r : Momentum) (v : ℕ) → d.momentum ≡ Some r → v + r.acceleration ≤ d.speed → next_velocity d (velocity d.forward v) ≡ velocity d.forward (v + r.acceleration)
stepped-up d r v h g =
    stepped-facing d r (velocity d.forward v) h (ahead-facing d v)
    ∙ ap (λ (s : ℕ). velocity d.forward s) (toward-up r.acceleration r.braking v d.speed g)

pub after-up : (d : Drive) (r : Momentum) (n v : ℕ) → d.momentum ≡ Some r → v + n * r.acceleration ≤ d.speed → velocity_after d n (velocity d.forward v) ≡ velocity d.forward (v + n * r.acceleration)
unfolding velocity_after
after-up d r zero v h g = let e : v ≡ v + zero * r.acceleration = omega arith in ap (λ (s : ℕ). velocity d.forward s) e
after-up d r (suc n) v h g =
    ap (λ (m : Velocity). velocity_after d n m) (stepped-up d r v h (fits-first v n r.acceleration d.speed g))
    ∙ after-up d r n (v + r.acceleration) h (fits-rest v n r.acceleration d.speed g)
    ∙ ap (λ (s : ℕ). velocity d.forward s) (sym (shift-up v n r.acceleration))

way-shift-up : (v n r s : ℕ) → v + r + (n * (v + r) + r * (n + s)) ≡ suc n * v + r * (n + 1 + (n + s))
way-shift-up v n r s =
    omega (arith, mul-add n v r, mul-add r (n + 1) (n + s), suc-mul n v, mul-add r n 1, mul_comm n r, mul_comm r 1)

pub way-up : (d : Drive) (r : Momentum) (n v : ℕ) → d.momentum ≡ Some r → v + n * r.acceleration ≤ d.speed → way d n (velocity d.forward v) ≡ n * v + r.acceleration * (n + sum_below n)
unfolding way sum_below
way-up d r zero v h g = omega (arith, mul_comm r.acceleration 0)
way-up d r (suc n) v h g =
    ap (λ (m : Velocity). m.speed + way d n m) (stepped-up d r v h (fits-first v n r.acceleration d.speed g))
    ∙ ap (λ (w : ℕ). v + r.acceleration + w) (way-up d r n (v + r.acceleration) h (fits-rest v n r.acceleration d.speed g))
    ∙ way-shift-up v n r.acceleration (sum_below n)
    ∙ ap (λ (k : ℕ). suc n * v + r.acceleration * (k + (n + sum_below n))) one where
      one : n + 1 ≡ suc n
      one = omega arith

-- Even steps down to a speed, which the direction does not change.

-- a step that brakes
abbrev pub BrakesTo : Drive → (rate : ℕ) → (forward : Bool) → (base : ℕ) → Type 0
BrakesTo d rate forward base = (v : ℕ) → base ≤ v → next_velocity d (velocity forward (v + rate)) ≡ velocity forward v

pub after-down : (d : Drive) (rate : ℕ) (f : Bool) (n base : ℕ) → BrakesTo d rate f base → velocity_after d n (velocity f (base + n * rate)) ≡ velocity f base
unfolding velocity_after
after-down d rate f zero base h = let e : base + zero * rate ≡ base = omega arith in ap (λ (s : ℕ). velocity f s) e
after-down d rate f (suc n) base h =
    let e : base + suc n * rate ≡ base + n * rate + rate = omega (arith, suc-mul n rate) in
    ap (λ (s : ℕ). velocity_after d n (next_velocity d (velocity f s))) e
    ∙ ap (λ (m : Velocity). velocity_after d n m) (h (base + n * rate) (omega arith))
    ∙ after-down d rate f n base h

way-shift-down : (base n rate s : ℕ) → base + n * rate + (n * base + rate * s) ≡ suc n * base + rate * (n + s)
way-shift-down base n rate s = omega (arith, suc-mul n base, mul-add rate n s, mul_comm n rate)

pub way-down : (d : Drive) (rate : ℕ) (f : Bool) (n base : ℕ) → BrakesTo d rate f base → way d n (velocity f (base + n * rate)) ≡ n * base + rate * sum_below n
unfolding way sum_below
way-down d rate f zero base h = omega (arith, mul_comm rate 0)
way-down d rate f (suc n) base h =
    let e : base + suc n * rate ≡ base + n * rate + rate = omega (arith, suc-mul n rate) in
    ap (λ (s : ℕ). way d (suc n) (velocity f s)) e
    ∙ ap (λ (m : Velocity). m.speed + way d n m) (h (base + n * rate) (omega arith))
    ∙ ap (λ (w : ℕ). base + n * rate + w) (way-down d rate f n base h)
    ∙ way-shift-down base n rate (sum_below n)

-- at the speed that is asked for
pub stepped-steady : (d : Drive) → next_velocity d (velocity d.forward d.speed) ≡ velocity d.forward d.speed
stepped-steady d = by d.momentum refl where
  by : (o : Option Momentum) → d.momentum ≡ o → next_velocity d (velocity d.forward d.speed) ≡ velocity d.forward d.speed
  by None h = stepped-none d (velocity d.forward d.speed) h
  by (Some r) h =
      stepped-facing d r (velocity d.forward d.speed) h (ahead-facing d d.speed)
      ∙ ap (λ (s : ℕ). velocity d.forward s) (toward-top r.acceleration r.braking d.speed d.speed (omega arith) (omega arith))

pub after-steady : (d : Drive) (n : ℕ) → velocity_after d n (velocity d.forward d.speed) ≡ velocity d.forward d.speed
unfolding velocity_after
after-steady d zero = refl
after-steady d (suc n) = ap (λ (m : Velocity). velocity_after d n m) (stepped-steady d) ∙ after-steady d n

pub way-steady : (d : Drive) (n : ℕ) → way d n (velocity d.forward d.speed) ≡ d.speed * n
unfolding way
way-steady d zero = omega arith
way-steady d (suc n) =
    ap (λ (m : Velocity). m.speed + way d n m) (stepped-steady d)
    ∙ ap (λ (w : ℕ). d.speed + w) (way-steady d n) ∙ omega (arith, mul-suc d.speed n)

-- Sums.

pub sum-twice : (n : ℕ) → 2 * sum_below n + n ≡ n * n
unfolding sum_below
sum-twice zero = refl
sum-twice (suc n) = let rest : 2 * sum_below n + n ≡ n * n = sum-twice n in omega (arith, rest, suc-mul n (suc n), mul-suc n n)

sum-product : (k s : ℕ) → 2 * s + suc k ≡ suc k * suc k → suc k * (suc k - 1) ≡ 2 * s
sum-product k s h = let one : suc k - 1 ≡ k = omega arith in ap (λ (x : ℕ). suc k * x) one ∙ omega (arith, h, mul-suc (suc k) k)

half : (x y : ℕ) → x ≡ 2 * y → x / 2 ≡ y
half x y h = omega (arith, h)

pub sum-half : (n : ℕ) → n * (n - 1) / 2 ≡ sum_below n
unfolding sum_below
sum-half zero = refl
sum-half (suc k) = half (suc k * (suc k - 1)) (sum_below (suc k)) (sum-product k (sum_below (suc k)) (sum-twice (suc k)))
