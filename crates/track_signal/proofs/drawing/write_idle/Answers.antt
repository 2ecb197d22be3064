use Rattle.std.proofs.Common.{ℕ, ◌<◌, ◌≤◌, ◌-◌, List, [], ◌++◌, ap, refl, sym, ◌∙◌, arith, rules}
use Rattle.std.proofs.KnownBytes.{Appends-nil}
use Rattle.half_bits.specs.Halves.{halves_of}
use Rattle.track_signal.specs.Dump.{idle_halves}
use Rattle.track_signal.proofs.Rails.{dumped_end, dumped_more, dumped_none, dumped_whole, idle_first, no_idle, packet_low}
use Rattle.track_signal.proofs.drawing.write_idle.Goals as goal

pub loop-left-init : goal.loop-left-init
loop-left-init g c = record {
  drawn = dumped_none [] c.args.start (idle_halves c.args.count) (g.O.Sink.held c.args.output.now) (g.O.Sink.held c.args.output.now) (Appends-nil (g.O.Sink.held c.args.output.now));
  soon = omega arith;
  writes = search rules;
}

pub loop-left-preserved : goal.loop-left-preserved
loop-left-preserved g c =
    let fewer = c.loop-left.left - 1 in
    let some : 0 < c.loop-left.left = omega (arith, c.loop-left-test.true) in
    let first = idle_first c.loop-left.left fewer some refl ∙ ap (λ (packet : List ℕ). halves_of packet ++ idle_halves fewer) (sym c.idle.ensures.bytes) in
    record {
      drawn = dumped_more [] c.args.start (idle_halves c.args.count) c.loop-left.time (idle_halves c.loop-left.left) (halves_of c.idle.result) (idle_halves fewer) c.in_ok-time.time (g.O.Sink.held c.args.output.now) (g.O.Sink.held c.loop-left.output) (g.O.Sink.held c.write_sent.new.output)
          c.loop-left.invariant.drawn first (packet_low c.idle.result) c.in_ok-time.ensures.text c.in_ok-time.ensures.end;
      soon = omega (arith, c.loop-left.invariant.soon, c.in_ok-time.ensures.soon, some);
      writes = c.in_ok-time.ensures.unwritten;
    }

pub returns-clause-text : goal.returns-clause-text
returns-clause-text g c =
    let none : c.loop-left.left ≤ 0 = omega (arith, c.loop-left-test.false) in
    dumped_whole [] c.args.start (idle_halves c.args.count) c.loop-left.time (idle_halves c.loop-left.left) (g.O.Sink.held c.args.output.now) (g.O.Sink.held c.loop-left.output) c.loop-left.invariant.drawn (no_idle c.loop-left.left none)

pub returns-clause-end : goal.returns-clause-end
returns-clause-end g c =
    let none : c.loop-left.left ≤ 0 = omega (arith, c.loop-left-test.false) in
    dumped_end [] c.args.start (idle_halves c.args.count) c.loop-left.time (idle_halves c.loop-left.left) (g.O.Sink.held c.args.output.now) (g.O.Sink.held c.loop-left.output) c.loop-left.invariant.drawn (no_idle c.loop-left.left none)
