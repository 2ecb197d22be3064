-- The time of a ramp is sufficient.
use Rattle.std.proofs.Common.{◌≡◌, ℕ, zero, suc, ◌+◌, ◌-◌, ◌*◌, ◌/◌, ◌%◌, ◌<◌, ◌≤◌, ◌==◌, ◌||◌, Bool, true, false, inl, inr, Option, Some, None, refl, ap, sym, ◌∙◌, arith}
use Rattle.std.proofs.Math.Nat.{mod-lt, mul-le-mul_right, suc-mul}
use Rattle.std.proofs.lemmas.Nat.{div-add-mod'}
use Rattle.std.proofs.lemmas.Bool.{and_parts, cases_Bool, leb-true}
use Rattle.std.proofs.lemmas.Bool.Decides.{nat_tests}
use Rattle.std.specs.Prelude.{if◌then◌else◌, nat_le}
use Rattle.motion.specs.declared.velocity.Drive.{Drive}
use Rattle.motion.specs.declared.velocity.Momentum.{Momentum}
use Rattle.motion.specs.declared.velocity.Velocity.{Velocity}
use Rattle.motion.specs.Velocity.{is_facing, is_momentum, next_velocity, ramp_by, ramp_to, same_bool, ticks, velocity, velocity_after}
use Rattle.motion.proofs.Legs.{facing-start, start-after}
use Rattle.motion.proofs.Reaching.{at-once, down-reaches, up-reaches}
use Rattle.motion.proofs.Steps.{after-add, stepped-other}

-- a change is made in its ticks
ticks-enough : (change rate n : ℕ) → 0 < rate → ticks change rate ≤ n → (0 < n) × (change ≤ n * rate)
ticks-enough change rate n p h =
    let q : ℕ = (change + (rate - 1)) / rate in
    let whole = div-add-mod' (change + (rate - 1)) rate in
    let small : (change + (rate - 1)) % rate < rate = mod-lt (change + (rate - 1)) p in
    let few : q ≤ n = grind (arith, nat_tests, h) in
    let some : 0 < n = grind (arith, nat_tests, h) in
    let more : q * rate ≤ n * rate = mul-le-mul_right rate few in
    (some, omega (arith, whole, small, more, p))

-- one that goes as it is to
facing-ramp : (d : Drive) (r : Momentum) (m : Velocity) (n : ℕ) → d.momentum ≡ Some r → 0 < r.acceleration → 0 < r.braking → is_facing d m ≡ true → ramp_to r m.speed d.speed ≤ n
    → velocity_after d n m ≡ velocity d.forward d.speed
facing-ramp d r m n h up down facing long = elim (cases_Bool (nat_le m.speed d.speed)) [
  | inl rises ↦
      let time : ticks (d.speed - m.speed) r.acceleration ≤ n = omega (arith, sym (ap (λ (b : Bool). if b then ticks (d.speed - m.speed) r.acceleration else ticks (m.speed - d.speed) r.braking) rises), long) in
      let enough = ticks-enough (d.speed - m.speed) r.acceleration n up time in
      let less : m.speed ≤ d.speed = leb-true m.speed d.speed rises in
      start-after d m (velocity d.forward m.speed) n enough.0 (facing-start d m facing) ∙ up-reaches d r n m.speed h less (omega (arith, enough.1))
  | inr falls ↦
      let time : ticks (m.speed - d.speed) r.braking ≤ n = omega (arith, sym (ap (λ (b : Bool). if b then ticks (d.speed - m.speed) r.acceleration else ticks (m.speed - d.speed) r.braking) falls), long) in
      let enough = ticks-enough (m.speed - d.speed) r.braking n down time in
      let more : d.speed ≤ m.speed = grind (arith, nat_tests, falls) in
      start-after d m (velocity d.forward m.speed) n enough.0 (facing-start d m facing) ∙ down-reaches d r n m.speed h more (omega (arith, enough.1))
]

-- a moment at which a train stands, from which on it goes as it is to
record StandsAt (d : Drive) (n : ℕ) (m : Velocity) : Type 0 where
  moment : ℕ
  within : moment ≤ n
  stands : (velocity_after d moment m).speed ≡ 0

behind : (d : Drive) (n : ℕ) (m : Velocity) → StandsAt d n (next_velocity d m) → StandsAt d (suc n) m
unfolding velocity_after
behind d n m h = record { moment = suc h.moment; within = omega (arith, h.within); stands = h.stands }

now : (d : Drive) (n : ℕ) (m : Velocity) → m.speed ≡ 0 → StandsAt d n m
unfolding velocity_after
now d n m h = record { moment = 0; within = omega arith; stands = h }

first-or : (one two : Bool) → (one || two) ≡ false → (one ≡ false) × (two ≡ false)
first-or true two h = cc
first-or false two h = (refl, h)

braked : (d : Drive) (r : Momentum) (n : ℕ) (m : Velocity) → d.momentum ≡ Some r → is_facing d m ≡ false → m.speed ≤ n * r.braking → StandsAt d n m
braked d r zero m h other near = now d 0 m (omega (arith, near))
braked d r (suc n) m h other near =
    let next : Velocity = next_velocity d m in
    let is : next ≡ velocity m.forward (m.speed - r.braking) = stepped-other d r m h other in
    let slower : next.speed ≡ m.speed - r.braking = ap (λ (v : Velocity). v.speed) is in
    let rest : next.speed ≤ n * r.braking = omega (arith, slower, near, suc-mul n r.braking) in
    elim (cases_Bool (next.speed == 0)) [
      | inl stands ↦ behind d n m (now d n next (grind (arith, nat_tests, stands)))
      | inr goes ↦
          let way : same_bool next.forward d.forward ≡ false = ap (λ (v : Velocity). same_bool v.forward d.forward) is ∙ (first-or (m.speed == 0) (same_bool m.forward d.forward) other).1 in
          behind d n m (braked d r n next h (ap (λ (b : Bool). b || same_bool next.forward d.forward) goes ∙ way) rest)
    ]

still-facing : (d : Drive) (m : Velocity) → m.speed ≡ 0 → is_facing d m ≡ true
still-facing d m h = ap (λ (s : ℕ). s == 0 || same_bool m.forward d.forward) h

still-ramp : (r : Momentum) (target : ℕ) → ramp_to r 0 target ≡ ticks target r.acceleration
still-ramp r target =
    let change : target - 0 ≡ target = omega arith in
    elim (cases_Bool (nat_le 0 target)) [
      | inl rises ↦ ap (λ (b : Bool). if b then ticks (target - 0) r.acceleration else ticks (0 - target) r.braking) rises ∙ ap (λ (k : ℕ). ticks k r.acceleration) change
      | inr falls ↦ absurd (grind (arith, nat_tests, falls))
    ]

-- one that goes the other way
other-ramp : (d : Drive) (r : Momentum) (m : Velocity) (n : ℕ) → d.momentum ≡ Some r → 0 < r.acceleration → 0 < r.braking → is_facing d m ≡ false
    → ticks m.speed r.braking + ticks d.speed r.acceleration ≤ n → velocity_after d n m ≡ velocity d.forward d.speed
other-ramp d r m n h up down other long =
    let brakes : ℕ = ticks m.speed r.braking in
    let enough = ticks-enough m.speed r.braking brakes down (omega arith) in
    let at = braked d r brakes m h other enough.1 in
    let there : Velocity = velocity_after d at.moment m in
    let whole : n ≡ at.moment + (n - at.moment) = omega (arith, at.within, long) in
    let rest : ticks d.speed r.acceleration ≤ n - at.moment = omega (arith, at.within, long) in
    let ramp : ramp_to r there.speed d.speed ≤ n - at.moment = omega (arith, ap (λ (s : ℕ). ramp_to r s d.speed) at.stands, still-ramp r d.speed, rest) in
    ap (λ (k : ℕ). velocity_after d k m) whole ∙ after-add d m at.moment (n - at.moment)
    ∙ facing-ramp d r there (n - at.moment) h up down (still-facing d there at.stands) ramp

pub ramp-ends : (d : Drive) (m : Velocity) (n : ℕ) → is_momentum d.momentum ≡ true → ramp_by d.momentum d m ≤ n → velocity_after d n m ≡ velocity d.forward d.speed
ramp-ends d m n h long = by d.momentum refl h long where
  by : (o : Option Momentum) → d.momentum ≡ o → is_momentum o ≡ true → ramp_by o d m ≤ n → velocity_after d n m ≡ velocity d.forward d.speed
  by None e rates time = at-once d n m e (omega (arith, time))
  by (Some r) e rates time =
      let parts = and_parts (nat_le 1 r.acceleration) (nat_le 1 r.braking) rates in
      let up : 0 < r.acceleration = leb-true 1 r.acceleration parts.0 in
      let down : 0 < r.braking = leb-true 1 r.braking parts.1 in
      let toward : ℕ = ramp_to r m.speed d.speed in
      let back : ℕ = ticks m.speed r.braking + ticks d.speed r.acceleration in
      elim (cases_Bool (is_facing d m)) [
        | inl facing ↦ facing-ramp d r m n e up down facing (omega (arith, sym (ap (λ (b : Bool). if b then toward else back) facing), time))
        | inr other ↦ other-ramp d r m n e up down other (omega (arith, sym (ap (λ (b : Bool). if b then toward else back) other), time))
      ]
