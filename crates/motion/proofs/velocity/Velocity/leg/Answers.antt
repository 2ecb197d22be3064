use Rattle.std.proofs.Common.{◌≡◌, ℕ, ◌<◌, ◌^◌, ap, refl, sym, subst, ◌∙◌, arith}
use Rattle.motion.specs.declared.leg.Leg.{Leg}
use Rattle.motion.specs.Legs.{falling_leg, rising_leg, steady_leg}
use Rattle.motion.specs.Velocity.{IsLeg, velocity, next_velocity}
use Rattle.motion.proofs.Legs.{brakes-ahead, brakes-other, facing-start, last-ahead, last-other, leg-falling, leg-rising, leg-steady, other-of, rates-of, slow-of}
use Rattle.motion.proofs.Steps.{stepped-none, stepped-steady}
use Rattle.motion.proofs.velocity.Velocity.leg.Goals as goal

pub returns-in_default : goal.returns-in_default
returns-in_default c =
    let d = c.args.drive in
    let m = c.args.self in
    let short : (steady_leg d.forward d.speed c.min-micros.result).way < 2 ^ 63 = subst (λ (leg : Leg). leg.way < 2 ^ 63) c.steady.ensures.leg c.steady.ensures.short in
    record {
      leg = subst (λ (leg : Leg). IsLeg d m c.args.micros leg) (sym c.steady.ensures.leg)
          (leg-steady d m c.min-micros.result c.args.micros (omega arith) (omega arith) (slow-of d c.requires.drive) short (stepped-none d m c.in_default.is));
    }

pub returns-then-not-is_facing : goal.returns-then-not-is_facing
returns-then-not-is_facing c =
    let d = c.args.drive in
    let m = c.args.self in
    let r = c.in-Some.momentum in
    let rates = rates-of d r c.requires.drive c.in-Some.is in
    let other = other-of d m (sym c.is_facing.ensures ∙ c.if-not-is_facing.true) in
    let short : (falling_leg m.forward m.speed 0 r.braking c.min-micros.result).way < 2 ^ 63 = subst (λ (leg : Leg). leg.way < 2 ^ 63) c.falling.ensures.leg c.falling.ensures.short in
    record {
      leg = subst (λ (leg : Leg). IsLeg d m c.args.micros leg) (sym c.falling.ensures.leg)
          (leg-falling d m r.braking m.forward 0 c.min-micros.result c.args.micros (omega arith) (omega arith) rates.braking other.turns c.requires.slow refl
          (λ base more. brakes-other d r m.forward base c.in-Some.is rates.braking other.other) (λ near. last-other d r m.forward m.speed c.in-Some.is other.turns near other.other) short);
    }

pub returns-then-self-drive : goal.returns-then-self-drive
returns-then-self-drive c =
    let d = c.args.drive in
    let m = c.args.self in
    let r = c.in-Some.momentum in
    let rates = rates-of d r c.requires.drive c.in-Some.is in
    let short : (rising_leg d.forward m.speed d.speed r.acceleration c.min-micros.result).way < 2 ^ 63 = subst (λ (leg : Leg). leg.way < 2 ^ 63) c.rising.ensures.leg c.rising.ensures.short in
    record {
      leg = subst (λ (leg : Leg). IsLeg d m c.args.micros leg) (sym c.rising.ensures.leg)
          (leg-rising d m r c.min-micros.result c.args.micros (omega arith) (omega arith) c.in-Some.is rates.acceleration c.if-self-drive.true (slow-of d c.requires.drive)
          (facing-start d m (sym c.is_facing.ensures ∙ c.if-not-is_facing.false)) short);
    }

pub returns-then-self-drive-2 : goal.returns-then-self-drive-2
returns-then-self-drive-2 c =
    let d = c.args.drive in
    let m = c.args.self in
    let r = c.in-Some.momentum in
    let rates = rates-of d r c.requires.drive c.in-Some.is in
    let leg = c.falling-then-self-drive-2 in
    let short : (falling_leg d.forward m.speed d.speed r.braking c.min-micros.result).way < 2 ^ 63 = subst (λ (leg : Leg). leg.way < 2 ^ 63) leg.ensures.leg leg.ensures.short in
    record {
      leg = subst (λ (leg : Leg). IsLeg d m c.args.micros leg) (sym leg.ensures.leg)
          (leg-falling d m r.braking d.forward d.speed c.min-micros.result c.args.micros (omega arith) (omega arith) rates.braking c.if-self-drive-2.true c.requires.slow
          (facing-start d m (sym c.is_facing.ensures ∙ c.if-not-is_facing.false))
          (λ base more. brakes-ahead d r base c.in-Some.is rates.braking more) (λ near. last-ahead d r m.speed c.in-Some.is c.if-self-drive-2.true near) short);
    }

pub returns-else-self-drive-2 : goal.returns-else-self-drive-2
returns-else-self-drive-2 c =
    let d = c.args.drive in
    let m = c.args.self in
    let same : m.speed ≡ d.speed = omega arith in
    let leg = c.steady-else-self-drive-2 in
    let short : (steady_leg d.forward d.speed c.min-micros.result).way < 2 ^ 63 = subst (λ (leg : Leg). leg.way < 2 ^ 63) leg.ensures.leg leg.ensures.short in
    record {
      leg = subst (λ (leg : Leg). IsLeg d m c.args.micros leg) (sym leg.ensures.leg)
          (leg-steady d m c.min-micros.result c.args.micros (omega arith) (omega arith) (slow-of d c.requires.drive) short
          (facing-start d m (sym c.is_facing.ensures ∙ c.if-not-is_facing.false) ∙ ap (λ (s : ℕ). next_velocity d (velocity d.forward s)) same ∙ stepped-steady d));
    }
