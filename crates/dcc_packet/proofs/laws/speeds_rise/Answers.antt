use Rattle.std.proofs.Common.{◌≡◌, ◌<◌, ◌≤◌, ◌+◌, ◌-◌, ◌*◌, ◌/◌, ℕ, refl, ap, ◌∙◌, arith, ne_eqb, nat_le}
use Rattle.std.proofs.lemmas.Bool.{and_parts, leb-true}
use Rattle.dcc_packet.specs.declared.steps.Motion.TheVariants.{Step}
use Rattle.dcc_packet.specs.declared.steps.Steps.{Steps}
use Rattle.dcc_packet.specs.declared.steps.Steps.TheVariants.{S14, S28, S128}
use Rattle.dcc_packet.specs.Steps.{motion_of, step_of}
use Rattle.dcc_packet.proofs.laws.speeds_rise.Goals as goal

-- from SPD 2 on there is a step
runs : (steps : Steps) (spd : ℕ) → 2 ≤ spd → motion_of steps spd ≡ Step steps (step_of steps spd)
runs steps spd h = rw (ne_eqb spd 0 (λ e. omega (arith, h, e)), ne_eqb spd 1 (λ e. omega (arith, h, e))) refl

runs_at : (steps : Steps) (n spd : ℕ) → 2 ≤ spd → spd < 128 → step_of steps spd ≡ n → (x : ℕ) × (x < 128) × (motion_of steps x ≡ Step steps n)
runs_at steps n spd h below is = (spd, below, runs steps spd h ∙ ap (Step steps) is)

pub returns-clause-reaches : goal.returns-clause-reaches
returns-clause-reaches c S14 n h =
    let parts = and_parts (nat_le 1 n) (nat_le n 14) h in
    let least : 1 ≤ n = leb-true 1 n parts.0 in
    let most : n ≤ 14 = leb-true n 14 parts.1 in
    runs_at S14 n (9 * (n - 1) + 2) (omega arith) (omega arith) (omega arith)
returns-clause-reaches c S28 n h =
    let parts = and_parts (nat_le 1 n) (nat_le n 28) h in
    let least : 1 ≤ n = leb-true 1 n parts.0 in
    let most : n ≤ 28 = leb-true n 28 parts.1 in
    runs_at S28 n ((9 * (n - 1) + 1) / 2 + 2) (omega arith) (omega arith) (omega arith)
returns-clause-reaches c S128 n h =
    let parts = and_parts (nat_le 1 n) (nat_le n 126) h in
    let least : 1 ≤ n = leb-true 1 n parts.0 in
    let most : n ≤ 126 = leb-true n 126 parts.1 in
    runs_at S128 n (n + 1) (omega arith) (omega arith) (omega arith)

pub returns-clause-by_nines : goal.returns-clause-by_nines
returns-clause-by_nines c spd h = (step_of S14 spd, runs S14 spd h, omega arith, omega arith)

pub returns-clause-by_halves : goal.returns-clause-by_halves
returns-clause-by_halves c spd h = (step_of S28 spd, runs S28 spd h, omega arith, omega arith)

pub returns-clause-one_by_one : goal.returns-clause-one_by_one
returns-clause-one_by_one c spd h = (step_of S128 spd, runs S128 spd h, omega arith)
