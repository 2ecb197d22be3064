use Rattle.std.proofs.Common.{◌≡◌, ℕ, ◌+◌, ◌*◌, ◌/◌, ◌%◌, ◌==◌, ◌≤◌, Bool, true, false, Some, refl, ap, ◌∙◌, arith}
use Rattle.std.specs.Prelude.{nat_le, IsTrue}
use Rattle.std.proofs.lemmas.Bool.{and_parts, eq-eqb, leb-true}
use Rattle.ln_ops.specs.Sensor.{in1, in2, is_sensor, report_bytes, report_of}
use Rattle.ln_ops.proofs.laws.reports_are_read.Goals as goal

-- the number that is read
number : (sensor : ℕ) (occupied : Bool) → 1 ≤ sensor → sensor ≤ 4096 → 1 + in2 sensor occupied % 16 * 256 + in1 sensor * 2 + in2 sensor occupied / 32 % 2 ≡ sensor
number sensor true first last = omega (arith, first, last)
number sensor false first last = omega (arith, first, last)

-- the level that is read
level : (sensor : ℕ) (occupied : Bool) → (in2 sensor occupied / 16 % 2 == 1) ≡ occupied
level sensor true = eq-eqb (in2 sensor true / 16 % 2) 1 (omega arith)
level sensor false = let zero : in2 sensor false / 16 % 2 ≡ 0 = omega arith in rw zero refl

read : (sensor : ℕ) (occupied : Bool) → IsTrue (is_sensor sensor) → report_of (report_bytes sensor occupied) ≡ Some (record { sensor = sensor; occupied = occupied })
read sensor occupied legal =
    let parts = and_parts (nat_le 1 sensor) (nat_le sensor 4096) legal in
    ap (λ (n : ℕ). Some (record { sensor = n; occupied = in2 sensor occupied / 16 % 2 == 1 })) (number sensor occupied (leb-true 1 sensor parts.0) (leb-true sensor 4096 parts.1))
    ∙ ap (λ (b : Bool). Some (record { sensor = sensor; occupied = b })) (level sensor occupied)

pub returns : goal.returns
returns c = record { read = read }
