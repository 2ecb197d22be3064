-- Each part of a time is as the train goes.
use Rattle.std.proofs.Common.{◌≡◌, ℕ, zero, suc, ◌+◌, ◌-◌, ◌*◌, ◌/◌, ◌%◌, ◌<◌, ◌≤◌, ◌^◌, ◌==◌, ◌&&◌, ◌||◌, min, Bool, true, false, Option, Some, None, refl, ap, sym, ◌∙◌, arith}
use Rattle.std.proofs.Math.Nat.{suc-mul, mul-le-mul_right, mod-lt, div-mul-le_self}
use Rattle.std.proofs.lemmas.Nat.{div-add-mod'}
use Rattle.std.proofs.lemmas.Bool.{and_from, and_parts, eqb-true, leb-true}
use Rattle.std.proofs.lemmas.Bool.Decides.{nat_tests}
use Rattle.std.specs.Prelude.{if◌then◌else◌, nat_le}
use Rattle.motion.specs.declared.leg.Leg.{Leg}
use Rattle.motion.specs.declared.velocity.Velocity.{Velocity}
use Rattle.motion.specs.declared.velocity.Momentum.{Momentum}
use Rattle.motion.specs.declared.velocity.Drive.{Drive}
use Rattle.motion.specs.Legs.{down_leg, falling_leg, last_leg, rising_leg, steady_leg, up_leg}
use Rattle.motion.specs.Velocity.{IsLeg, velocity_after, is_drive, is_facing, is_momentum, velocity, same_bool, next_velocity, sum_below, toward, goes_only, way}
use Rattle.motion.proofs.Steps.{BrakesTo, after-down, after-steady, after-up, ahead-facing, same-self, stepped-facing, stepped-none, stepped-other, stepped-steady, toward-bottom, toward-down, toward-top, way-down, way-steady, way-up}

-- What the first microsecond starts alike goes on alike.

pub start-after : (d : Drive) (m k : Velocity) (n : ℕ) → 0 < n → next_velocity d m ≡ next_velocity d k → velocity_after d n m ≡ velocity_after d n k
unfolding velocity_after
start-after d m k zero p h = absurd (omega (arith, p))
start-after d m k (suc n) p h = ap (λ (x : Velocity). velocity_after d n x) h

pub start-way : (d : Drive) (m k : Velocity) (n : ℕ) → 0 < n → next_velocity d m ≡ next_velocity d k → way d n m ≡ way d n k
unfolding way
start-way d m k zero p h = absurd (omega (arith, p))
start-way d m k (suc n) p h = ap (λ (x : Velocity). x.speed + way d n x) h

pub start-turns : (f : Bool) (d : Drive) (m k : Velocity) (n : ℕ) → 0 < n → next_velocity d m ≡ next_velocity d k → goes_only f d n m ≡ goes_only f d n k
unfolding goes_only
start-turns f d m k zero p h = absurd (omega (arith, p))
start-turns f d m k (suc n) p h = ap (λ (x : Velocity). same_bool x.forward f && goes_only f d n x) h

pub stepped-ahead : (d : Drive) (v : ℕ) → (s : ℕ) × (next_velocity d (velocity d.forward v) ≡ velocity d.forward s)
stepped-ahead d v = by d.momentum refl where
  by : (o : Option Momentum) → d.momentum ≡ o → (s : ℕ) × (next_velocity d (velocity d.forward v) ≡ velocity d.forward s)
  by None h = (d.speed, stepped-none d (velocity d.forward v) h)
  by (Some r) h = (toward r.acceleration r.braking v d.speed, stepped-facing d r (velocity d.forward v) h (ahead-facing d v))

pub turns-ahead : (d : Drive) (n v : ℕ) → goes_only d.forward d n (velocity d.forward v) ≡ true
unfolding goes_only
turns-ahead d zero v = refl
turns-ahead d (suc n) v =
    let next = stepped-ahead d v in
    ap (λ (x : Velocity). same_bool x.forward d.forward && goes_only d.forward d n x) next.1
    ∙ and_from (same_bool d.forward d.forward) (goes_only d.forward d n (velocity d.forward next.0)) (same-self d.forward) (turns-ahead d n next.0)

pub turns-down : (d : Drive) (rate : ℕ) (f : Bool) (n base : ℕ) → BrakesTo d rate f base → goes_only f d n (velocity f (base + n * rate)) ≡ true
unfolding goes_only
turns-down d rate f zero base h = refl
turns-down d rate f (suc n) base h =
    let e : base + suc n * rate ≡ base + n * rate + rate = omega (arith, suc-mul n rate) in
    ap (λ (s : ℕ). goes_only f d (suc n) (velocity f s)) e
    ∙ ap (λ (x : Velocity). same_bool x.forward f && goes_only f d n x) (h (base + n * rate) (omega arith))
    ∙ and_from (same_bool f f) (goes_only f d n (velocity f (base + n * rate))) (same-self f) (turns-down d rate f n base h)

-- Each kind of part.

pub leg-steady : (d : Drive) (m : Velocity) (k n : ℕ) → 0 < k → k ≤ n → d.speed ≤ 2199023255552 → (steady_leg d.forward d.speed k).way < 2 ^ 63 → next_velocity d m ≡ velocity d.forward d.speed → IsLeg d m n (steady_leg d.forward d.speed k)
leg-steady d m k n p q slow short h =
    let same : next_velocity d m ≡ next_velocity d (velocity d.forward d.speed) = h ∙ sym (stepped-steady d) in
    record {
      goes = p;
      part = q;
      reached = sym (start-after d m (velocity d.forward d.speed) k p same ∙ after-steady d k);
      far = sym (start-way d m (velocity d.forward d.speed) k p same ∙ way-steady d k);
      one_way = start-turns d.forward d m (velocity d.forward d.speed) k p same ∙ turns-ahead d k d.speed;
      slow = slow;
      short = short;
    }

one-after : (d : Drive) (m k : Velocity) → next_velocity d m ≡ k → velocity_after d 1 m ≡ k
unfolding velocity_after
one-after d m k h = h

one-way : (d : Drive) (m k : Velocity) → next_velocity d m ≡ k → way d 1 m ≡ k.speed
unfolding way
one-way d m k h = ap (λ (x : Velocity). x.speed + 0) h ∙ omega arith

one-turns : (f : Bool) (d : Drive) (m k : Velocity) → next_velocity d m ≡ k → k.forward ≡ f → goes_only f d 1 m ≡ true
unfolding goes_only
one-turns f d m k h g =
    ap (λ (x : Velocity). same_bool x.forward f && true) h ∙ ap (λ (b : Bool). same_bool b f && true) g ∙ and_from (same_bool f f) true (same-self f) refl

pub leg-last : (d : Drive) (m : Velocity) (f : Bool) (t n : ℕ) → 0 < n → t ≤ 2199023255552 → next_velocity d m ≡ velocity f t → IsLeg d m n (last_leg f t)
leg-last d m f t n p slow h = record {
  goes = omega arith;
  part = omega arith;
  reached = sym (one-after d m (velocity f t) h);
  far = sym (one-way d m (velocity f t) h);
  one_way = one-turns f d m (velocity f t) h refl;
  slow = slow;
  short = omega (arith, slow);
}

pub leg-up : (d : Drive) (m : Velocity) (r : Momentum) (v k n : ℕ) → 0 < k → k ≤ n → d.momentum ≡ Some r → v + k * r.acceleration ≤ d.speed → d.speed ≤ 2199023255552 → (up_leg d.forward v r.acceleration k).way < 2 ^ 63
    → next_velocity d m ≡ next_velocity d (velocity d.forward v) → IsLeg d m n (up_leg d.forward v r.acceleration k)
unfolding sum_below
leg-up d m r v k n p q h g slow short same =
    let more : k + 1 ≡ suc k = omega arith in
    record {
      goes = p;
      part = q;
      reached = sym (start-after d m (velocity d.forward v) k p same ∙ after-up d r k v h g);
      far = sym (start-way d m (velocity d.forward v) k p same ∙ way-up d r k v h g ∙ ap (λ (x : ℕ). k * v + r.acceleration * sum_below x) (sym more));
      one_way = start-turns d.forward d m (velocity d.forward v) k p same ∙ turns-ahead d k v;
      slow = omega (arith, g, slow);
      short = short;
    }

pub leg-down : (d : Drive) (m : Velocity) (rate : ℕ) (f : Bool) (base k n : ℕ) → 0 < k → k ≤ n → BrakesTo d rate f base → base ≤ 2199023255552 → (down_leg f base rate k).way < 2 ^ 63
    → next_velocity d m ≡ next_velocity d (velocity f (base + k * rate)) → IsLeg d m n (down_leg f base rate k)
leg-down d m rate f base k n p q h slow short same = record {
  goes = p;
  part = q;
  reached = sym (start-after d m (velocity f (base + k * rate)) k p same ∙ after-down d rate f k base h);
  far = sym (start-way d m (velocity f (base + k * rate)) k p same ∙ way-down d rate f k base h);
  one_way = start-turns f d m (velocity f (base + k * rate)) k p same ∙ turns-down d rate f k base h;
  slow = slow;
  short = short;
}

-- What the code chooses.

-- so many steps of a rate go into a difference
steps-fit : (x rate n : ℕ) → min (x / rate) n * rate ≤ x
steps-fit x rate n =
    let less : min (x / rate) n ≤ x / rate = omega arith in
    let scaled : min (x / rate) n * rate ≤ x / rate * rate = mul-le-mul_right rate less in
    omega (arith, scaled, div-mul-le_self x rate)

small-part : (x rate : ℕ) → 0 < rate → x / rate ≡ 0 → x < rate
small-part x rate p h =
    let whole : x / rate * rate + x % rate ≡ x = div-add-mod' x rate in
    let none : x / rate * rate ≡ 0 * rate = ap (λ (k : ℕ). k * rate) h in
    omega (arith, whole, none, mod-lt x p)

steps-go : (x rate n : ℕ) → 0 < n → (x / rate == 0) ≡ false → 0 < min (x / rate) n
steps-go x rate n p h = grind (arith, nat_tests)

-- what holds of either is chosen
either : (P : Leg → Type 0) (b : Bool) (one two : Leg) → (b ≡ true → P one) → (b ≡ false → P two) → P (if b then one else two)
either P true one two h g = h refl
either P false one two h g = g refl

-- a part that is short enough
abbrev IsShortLeg : Drive → Velocity → (n : ℕ) → Leg → Type 0
IsShortLeg d m n leg = leg.way < 2 ^ 63 → IsLeg d m n leg

pub leg-rising : (d : Drive) (m : Velocity) (r : Momentum) (k n : ℕ) → 0 < k → k ≤ n → d.momentum ≡ Some r → 0 < r.acceleration → m.speed < d.speed → d.speed ≤ 2199023255552 → next_velocity d m ≡ next_velocity d (velocity d.forward m.speed)
    → (rising_leg d.forward m.speed d.speed r.acceleration k).way < 2 ^ 63 → IsLeg d m n (rising_leg d.forward m.speed d.speed r.acceleration k)
leg-rising d m r k n p q h up less slow same =
    let steps = min ((d.speed - m.speed) / r.acceleration) k in
    let fit : steps * r.acceleration ≤ d.speed - m.speed = steps-fit (d.speed - m.speed) r.acceleration k in
    let few : steps ≤ k = omega arith in
    either (IsShortLeg d m n) ((d.speed - m.speed) / r.acceleration == 0) (last_leg d.forward d.speed) (up_leg d.forward m.speed r.acceleration steps)
    (λ e short.
    let near : d.speed - m.speed < r.acceleration = small-part (d.speed - m.speed) r.acceleration up (eqb-true ((d.speed - m.speed) / r.acceleration) 0 e) in
    leg-last d m d.forward d.speed n (omega (arith, p, q)) slow
    (same ∙ stepped-facing d r (velocity d.forward m.speed) h (ahead-facing d m.speed) ∙ ap (λ (s : ℕ). velocity d.forward s) (toward-top r.acceleration r.braking m.speed d.speed (omega (arith, less)) (omega (arith, near)))))
    (λ e short. leg-up d m r m.speed steps n (steps-go (d.speed - m.speed) r.acceleration k p e) (omega (arith, few, q)) h (omega (arith, fit, less)) slow short same)

-- a train brakes to a speed or to standstill
pub leg-falling : (d : Drive) (m : Velocity) (rate : ℕ) (f : Bool) (t k n : ℕ) → 0 < k → k ≤ n → 0 < rate → t < m.speed → m.speed ≤ 2199023255552 → next_velocity d m ≡ next_velocity d (velocity f m.speed)
    → ((base : ℕ) → t ≤ base → BrakesTo d rate f base) → (m.speed - t < rate → next_velocity d (velocity f m.speed) ≡ velocity f t)
    → (falling_leg f m.speed t rate k).way < 2 ^ 63 → IsLeg d m n (falling_leg f m.speed t rate k)
leg-falling d m rate f t k n p q down less slow same brakes last =
    let steps = min ((m.speed - t) / rate) k in
    let fit : steps * rate ≤ m.speed - t = steps-fit (m.speed - t) rate k in
    let few : steps ≤ k = omega arith in
    let whole : m.speed ≡ m.speed - steps * rate + steps * rate = omega (arith, fit) in
    either (IsShortLeg d m n) ((m.speed - t) / rate == 0) (last_leg f t) (down_leg f (m.speed - steps * rate) rate steps)
    (λ e short. leg-last d m f t n (omega (arith, p, q)) (omega (arith, less, slow)) (same ∙ last (small-part (m.speed - t) rate down (eqb-true ((m.speed - t) / rate) 0 e))))
    (λ e short. leg-down d m rate f (m.speed - steps * rate) steps n (steps-go (m.speed - t) rate k p e) (omega (arith, few, q)) (brakes (m.speed - steps * rate) (omega (arith, fit, less))) (omega (arith, slow)) short
    (same ∙ ap (λ (s : ℕ). next_velocity d (velocity f s)) whole))

pub brakes-ahead : (d : Drive) (r : Momentum) (base : ℕ) → d.momentum ≡ Some r → 0 < r.braking → d.speed ≤ base → BrakesTo d r.braking d.forward base
brakes-ahead d r base h down g v more =
    stepped-facing d r (velocity d.forward (v + r.braking)) h (ahead-facing d (v + r.braking))
    ∙ ap (λ (s : ℕ). velocity d.forward s) (toward-down r.acceleration r.braking v d.speed down (omega (arith, g, more)))

pub last-ahead : (d : Drive) (r : Momentum) (v : ℕ) → d.momentum ≡ Some r → d.speed < v → v - d.speed < r.braking → next_velocity d (velocity d.forward v) ≡ velocity d.forward d.speed
last-ahead d r v h less near =
    stepped-facing d r (velocity d.forward v) h (ahead-facing d v)
    ∙ ap (λ (s : ℕ). velocity d.forward s) (toward-bottom r.acceleration r.braking v d.speed less (omega (arith, near)))

-- a train that goes the other way
pub other-facing : (d : Drive) (f : Bool) (v : ℕ) → 0 < v → same_bool f d.forward ≡ false → is_facing d (velocity f v) ≡ false
other-facing d f v p h = or-none (v == 0) (same_bool f d.forward) (grind (arith, nat_tests)) h where
  or-none : (one two : Bool) → one ≡ false → two ≡ false → (one || two) ≡ false
  or-none true two e g = e
  or-none false two e g = g

pub brakes-other : (d : Drive) (r : Momentum) (f : Bool) (base : ℕ) → d.momentum ≡ Some r → 0 < r.braking → same_bool f d.forward ≡ false → BrakesTo d r.braking f base
brakes-other d r f base h down g v more =
    let back : v + r.braking - r.braking ≡ v = omega arith in
    stepped-other d r (velocity f (v + r.braking)) h (other-facing d f (v + r.braking) (omega (arith, down)) g)
    ∙ ap (λ (s : ℕ). velocity f s) back

pub last-other : (d : Drive) (r : Momentum) (f : Bool) (v : ℕ) → d.momentum ≡ Some r → 0 < v → v - 0 < r.braking → same_bool f d.forward ≡ false → next_velocity d (velocity f v) ≡ velocity f 0
last-other d r f v h p near g =
    let none : v - r.braking ≡ 0 = omega (arith, near) in
    stepped-other d r (velocity f v) h (other-facing d f v p g) ∙ ap (λ (s : ℕ). velocity f s) none

-- a train that stands, or goes as it is asked to, starts as one that goes so
pub facing-start : (d : Drive) (m : Velocity) → is_facing d m ≡ true → next_velocity d m ≡ next_velocity d (velocity d.forward m.speed)
facing-start d m g = by d.momentum refl where
  by : (o : Option Momentum) → d.momentum ≡ o → next_velocity d m ≡ next_velocity d (velocity d.forward m.speed)
  by None h = stepped-none d m h ∙ sym (stepped-none d (velocity d.forward m.speed) h)
  by (Some r) h = stepped-facing d r m h g ∙ sym (stepped-facing d r (velocity d.forward m.speed) h (ahead-facing d m.speed))

-- What a drive is.

pub slow-of : (d : Drive) → is_drive d ≡ true → d.speed ≤ 2199023255552
slow-of d h = leb-true d.speed 2199023255552 (and_parts (nat_le d.speed 2199023255552) (is_momentum d.momentum) h).0

pub record Rates (r : Momentum) : Type 0 where
  pub acceleration : 0 < r.acceleration
  pub braking : 0 < r.braking

pub rates-of : (d : Drive) (r : Momentum) → is_drive d ≡ true → d.momentum ≡ Some r → Rates r
rates-of d r h g =
    let own : is_momentum d.momentum ≡ true = (and_parts (nat_le d.speed 2199023255552) (is_momentum d.momentum) h).1 in
    let some : is_momentum (Some r) ≡ true = sym (ap (λ (o : Option Momentum). is_momentum o) g) ∙ own in
    let parts = and_parts (nat_le 1 r.acceleration) (nat_le 1 r.braking) some in
    record { acceleration = leb-true 1 r.acceleration parts.0; braking = leb-true 1 r.braking parts.1 }

-- a train that goes the other way moves, and otherwise than it is asked to
pub record Other (d : Drive) (m : Velocity) : Type 0 where
  pub turns : 0 < m.speed
  pub other : same_bool m.forward d.forward ≡ false

pub other-of : (d : Drive) (m : Velocity) → is_facing d m ≡ false → Other d m
other-of d m h = record { turns = grind (arith, nat_tests, or-left (m.speed == 0) (same_bool m.forward d.forward) h); other = or-right (m.speed == 0) (same_bool m.forward d.forward) h } where
  or-left : (one two : Bool) → (one || two) ≡ false → one ≡ false
  or-left true two e = e
  or-left false two e = refl

  or-right : (one two : Bool) → (one || two) ≡ false → two ≡ false
  or-right true two e = cc
  or-right false two e = e

pub turns-at-once : (d : Drive) (m : Velocity) (n : ℕ) → 0 < n → d.momentum ≡ None → goes_only d.forward d n m ≡ true
turns-at-once d m n p h =
    start-turns d.forward d m (velocity d.forward d.speed) n p (stepped-none d m h ∙ sym (stepped-steady d)) ∙ turns-ahead d n d.speed

pub turns-none : (d : Drive) (m : Velocity) (n : ℕ) → d.momentum ≡ None → goes_only d.forward d n m ≡ true
unfolding goes_only
turns-none d m zero h = refl
turns-none d m (suc n) h = turns-at-once d m (suc n) (omega arith) h
