use Rattle.std.proofs.Common.{◌+◌, ◌-◌, ℕ, List, ◌∷◌, ◌++◌, drop, drop_of_length-le as drop_all, ap, refl, sym, ◌∙◌, arith, rules}
use Rattle.std.proofs.lemmas.List.{drop_more}
use Rattle.trace.specs.declared.turn.Turn.{Turn}
use Rattle.track_signal.specs.Dump.{header, idle_halves, sent_halves, turn_halves}
use Rattle.track_signal.proofs.Rails.{dumped_all, dumped_more, dumped_none, idle_low, sent_low, turns_end, turns_more}
use Rattle.track_signal.proofs.signal.TrackSignalDrawing.draw.Goals as goal

pub loop-turn-init : goal.loop-turn-init
loop-turn-init g c = record {
  drawn = dumped_none header 0 (turn_halves 0 c.args.turns.now) (g.O.Sink.held c.args.output.now) (g.O.Sink.held c.put_all.new.output) c.in_ok-put_all.ensures.all;
  soon = omega arith;
  writes = search rules;
}

pub loop-turn-preserved : goal.loop-turn-preserved
loop-turn-preserved g c =
    let turn = c.turn-item.result in
    let left = drop c.loop-turn.turn-index c.args.turns.now in
    let rest = drop (c.loop-turn.turn-index + 1) c.args.turns.now in
    let all = turn_halves 0 c.args.turns.now in
    let between = c.turns_since-between.result - 1 in
    let is = drop_more c.args.turns.now c.loop-turn.turn-index turn c.loop-turn-test.true ∙ ap (λ (t : Turn). t ∷ drop (c.loop-turn.turn-index + 1) c.args.turns.now) (sym c.turn-item.is) in
    let more = turns_more c.loop-turn.last left turn rest between is (ap (λ (n : ℕ). n - 1) c.turns_since-between.ensures.value) in
    let idled = dumped_more header 0 all c.loop-turn.time (turn_halves c.loop-turn.last left) (idle_halves between) (sent_halves turn.packet ++ turn_halves turn.number rest) c.in_ok-began.began (g.O.Sink.held c.args.output.now) (g.O.Sink.held c.loop-turn.output) (g.O.Sink.held c.write_idle.new.output)
    c.loop-turn.invariant.drawn more (idle_low between) c.in_ok-began.ensures.text c.in_ok-began.ensures.end in
    record {
      drawn = dumped_more header 0 all c.in_ok-began.began (sent_halves turn.packet ++ turn_halves turn.number rest) (sent_halves turn.packet) (turn_halves turn.number rest) c.in_ok-time.time (g.O.Sink.held c.args.output.now) (g.O.Sink.held c.write_idle.new.output) (g.O.Sink.held c.write_sent.new.output)
          idled refl (sent_low turn.packet) c.in_ok-time.ensures.text c.in_ok-time.ensures.end;
      soon = omega (arith, c.loop-turn.invariant.soon, c.turns_since-between.ensures.most, c.in_ok-began.ensures.soon, c.in_ok-time.ensures.soon);
      writes = c.in_ok-time.ensures.unwritten;
    }

pub returns-clause-text : goal.returns-clause-text
returns-clause-text g c =
    let all = dumped_all c.write_end.result c.args.turns.now c.loop-turn.time (turn_halves c.loop-turn.last (drop c.loop-turn.turn-index c.args.turns.now)) (g.O.Sink.held c.args.output.now) (g.O.Sink.held c.loop-turn.output) (g.O.Sink.held c.write_end.new.output) c.loop-turn.invariant.drawn (turns_end c.loop-turn.last (drop c.loop-turn.turn-index c.args.turns.now) (drop_all c.args.turns.now c.loop-turn-test.false)) c.write_end.ensures.text in
    search (rules, all)
