use Rattle.std.proofs.Common.{◌∙◌, arith}
use Rattle.half_bits.specs.Halves.{halves_of}
use Rattle.track_signal.proofs.Rails.{drawn_end, drawn_more, drawn_none, drawn_whole, half_fits, longest}
use Rattle.track_signal.proofs.drawing.draw_packet.Goals as goal

pub loop-half-init : goal.loop-half-init
loop-half-init g c = drawn_none c.args.start (halves_of c.args.packet.now) c.into_iter-half-iterator.result (g.O.Write.contents c.args.output.now) (c.into_iter-half-iterator.ensures.into_iter_gives ∙ c.halves-half-items.ensures.items)

pub overflow_add-time : goal.overflow_add-time
overflow_add-time g c =
    let within = half_fits c.args.start (halves_of c.args.packet.now) c.loop-half.time c.loop-half.is_high c.loop-half.half-iterator c.in-Some.half c.from-time.result c.next.new.self (g.O.Write.contents c.args.output.now) (g.O.Write.contents c.loop-half.output) c.loop-half.invariant c.in-Some.ensures.steps c.from-time.ensures in
    let most = longest c.args.packet.now c.halves-half-items.result c.halves-half-items.ensures.packet c.halves-half-items.ensures.items c.halves-half-items.ensures.length in
    omega (arith, c.requires, within, most)

pub loop-half-preserved : goal.loop-half-preserved
loop-half-preserved g c = drawn_more c.args.start (halves_of c.args.packet.now) c.loop-half.time c.loop-half.is_high c.loop-half.half-iterator c.in-Some.half c.from-time.result c.next.new.self (g.O.Write.contents c.args.output.now) (g.O.Write.contents c.loop-half.output) (g.O.Write.contents c.write_change.new.output) c.loop-half.invariant c.in-Some.ensures.steps c.from-time.ensures c.in_ok-write_change.ensures

pub returns-clause-text : goal.returns-clause-text
returns-clause-text g c = drawn_whole c.args.start (halves_of c.args.packet.now) c.loop-half.time c.loop-half.is_high c.loop-half.half-iterator (g.O.Write.contents c.args.output.now) (g.O.Write.contents c.loop-half.output) c.loop-half.invariant c.in-None.ensures.steps.0

pub returns-clause-end : goal.returns-clause-end
returns-clause-end g c = drawn_end c.args.start (halves_of c.args.packet.now) c.loop-half.time c.loop-half.is_high c.loop-half.half-iterator (g.O.Write.contents c.args.output.now) (g.O.Write.contents c.loop-half.output) c.loop-half.invariant c.in-None.ensures.steps.0

pub returns-clause-soon : goal.returns-clause-soon
returns-clause-soon g c =
    let most = longest c.args.packet.now c.halves-half-items.result c.halves-half-items.ensures.packet c.halves-half-items.ensures.items c.halves-half-items.ensures.length in
    let end = drawn_end c.args.start (halves_of c.args.packet.now) c.loop-half.time c.loop-half.is_high c.loop-half.half-iterator (g.O.Write.contents c.args.output.now) (g.O.Write.contents c.loop-half.output) c.loop-half.invariant c.in-None.ensures.steps.0 in
    omega (arith, most, end)
