use Rattle.std.proofs.Common.{◌<◌, ◌^◌, ◌∙◌, ℕ, List, subst, arith}
use Rattle.std.proofs.lemmas.List.{take_all}
use Rattle.half_bits.proofs.Numbers.{Holds, at_most_six, holds_next, room, small, whole}
use Rattle.half_bits.proofs.wave.number_of.Goals as goal

-- the number is small before the next byte
low : (c : goal.In-loop-byte) → c.loop-byte.zeros < 2 ^ 45
low c = small c.bytes-byte-items.result.now c.loop-byte.byte-index c.loop-byte.zeros c.loop-byte.bits (at_most_six c.bytes-byte-items.result.now c.bytes-byte-items.ensures.form) c.loop-byte-test.true c.loop-byte.invariant

pub overflow_mul-zeros : goal.overflow_mul-zeros
overflow_mul-zeros c = omega (arith, low c)

pub overflow_add-zeros : goal.overflow_add-zeros
overflow_add-zeros c = omega (arith, low c)

pub overflow_add-zeros-in-loop-byte : goal.overflow_add-zeros-in-loop-byte
overflow_add-zeros-in-loop-byte c =
    let below = small c.bytes-byte-items.result.now c.loop-byte.byte-index c.loop-byte.zeros c.loop-byte.bits (at_most_six c.bytes-byte-items.result.now c.bytes-byte-items.ensures.form) c.loop-byte-test.true c.loop-byte.invariant in
    omega (arith, below, c.from.ensures)

pub loop-byte-preserved : goal.loop-byte-preserved
loop-byte-preserved c =
    holds_next c.bytes-byte-items.result.now c.loop-byte.byte-index c.loop-byte.zeros c.loop-byte.bits c.from.result c.loop-byte-test.true (omega (arith, c.type_inv.byte-items c.loop-byte.byte-index)) c.from.ensures c.loop-byte.invariant

pub returns-clause-items : goal.returns-clause-items
returns-clause-items c =
    let all = take_all c.loop-byte.byte-index c.bytes-byte-items.result.now c.loop-byte-test.false ∙ c.bytes-byte-items.ensures.value in
    let P : List ℕ → Type 0 = λ bytes. Holds bytes c.loop-byte.zeros c.loop-byte.bits in
    whole c.args.packet.now c.loop-byte.zeros c.loop-byte.bits (subst P all c.loop-byte.invariant)

pub returns-clause-room : goal.returns-clause-room
returns-clause-room c =
    let bytes = c.bytes-byte-items.result.now in
    let all = take_all c.loop-byte.byte-index bytes c.loop-byte-test.false in
    let P : List ℕ → Type 0 = λ bytes. Holds bytes c.loop-byte.zeros c.loop-byte.bits in
    room bytes c.loop-byte.zeros c.loop-byte.bits (at_most_six bytes c.bytes-byte-items.ensures.form) (subst P all c.loop-byte.invariant)
