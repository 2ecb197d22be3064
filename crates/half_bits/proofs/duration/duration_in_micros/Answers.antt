use Rattle.std.proofs.Common.{arith}
use Rattle.half_bits.proofs.Durations.{half_more, half_none, within_packet}
use Rattle.half_bits.proofs.duration.duration_in_micros.Goals as goal

pub overflow_add-micros : goal.overflow_add-micros
overflow_add-micros c =
    let parts = half_more c.loop-half.half-iterator c.in-Some.half c.next.new.self c.in-Some.ensures.steps in
    omega (arith, parts, (within_packet c.args.packet.now c.halves-half-items.ensures.packet).1)

pub returns-clause-shortest : goal.returns-clause-shortest
returns-clause-shortest c = omega (arith, half_none c.loop-half.half-iterator c.in-None.ensures.steps.0, (within_packet c.args.packet.now c.halves-half-items.ensures.packet).0)

pub returns-clause-longest : goal.returns-clause-longest
returns-clause-longest c = omega (arith, (within_packet c.args.packet.now c.halves-half-items.ensures.packet).1)
