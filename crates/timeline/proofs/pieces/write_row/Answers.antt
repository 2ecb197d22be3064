use Rattle.std.proofs.Common.{rules, ◌≡◌, ◌+◌, ◌∷◌, ◌++◌, None, codes, refl, ap, sym, ◌∙◌, drop, drop_of_length-le as drop_all, arith}
use Rattle.std.proofs.lemmas.List.{drop_more}
use Rattle.timeline.specs.declared.event.Event.{Event}
use Rattle.timeline.specs.Picture.{head_text, marks_of, marks_text, row_text, start}
use Rattle.timeline.proofs.Steps.{marks_end}
use Rattle.timeline.proofs.Written.{marked, then_ok, unmarked, written_all}
use Rattle.timeline.proofs.pieces.write_row.Goals as goal
use Rattle.timeline.proofs.pieces.write_row.Goals.{in-Some+in_ok-write_next, in_default}

pub loop-event-init : goal.loop-event-init
loop-event-init g c = record {
  drawn = record { written = head_text c.args.row.now c.args.base; appended = c.in_ok-write_head.ensures; whole = refl };
  soon = omega arith;
}

pub loop-event-preserved : goal.loop-event-preserved
loop-event-preserved g c =
    let event = c.event-item.result in
    let left = drop c.loop-event.event-index c.args.events.now in
    let rest = drop (c.loop-event.event-index + 1) c.args.events.now in
    let all = head_text c.args.row.now c.args.base ++ marks_text c.args.row.now c.args.base None (marks_of c.args.row.now c.args.turns start c.args.events.now) in
    let is = drop_more c.args.events.now c.loop-event.event-index event c.loop-event-test.true ∙ ap (λ (i : Event). i ∷ drop (c.loop-event.event-index + 1) c.args.events.now) (sym c.event-item.is) in
    record {
      drawn = elim c.match-height_of.branch [
        | in-Some+in_ok-write_next w ↦
            marked c.args.row.now c.args.turns c.args.base c.loop-event.moment c.moment_after-moment.result c.loop-event.last c.match-height_of.last left event rest w.in-Some.height w.x_of.result c.height_of.result all
            (g.O.Write.contents c.args.output.now) (g.O.Write.contents c.loop-event.output) (g.O.Write.contents w.write_next.new.output) (g.O.Write.contents c.match-height_of.output) c.loop-event.invariant.drawn is
            c.moment_after-moment.ensures.value c.height_of.ensures.value w.in-Some.is w.x_of.ensures w.last-is w.in_ok-write_next.ensures (ap g.O.Write.contents w.output-is)
        | in_default w ↦
            unmarked c.args.row.now c.args.turns c.args.base c.loop-event.moment c.moment_after-moment.result c.loop-event.last c.match-height_of.last left event rest c.height_of.result all
            (g.O.Write.contents c.args.output.now) (g.O.Write.contents c.loop-event.output) (g.O.Write.contents c.match-height_of.output) c.loop-event.invariant.drawn is
            c.moment_after-moment.ensures.value c.height_of.ensures.value (let none : c.height_of.result ≡ None = search rules in none) w.last-is (ap g.O.Write.contents w.output-is)
      ];
      soon = omega (arith, c.loop-event.invariant.soon, c.moment_after-moment.ensures.most);
    }

pub returns : goal.returns
unfolding row_text
returns g c =
    let all = head_text c.args.row.now c.args.base ++ marks_text c.args.row.now c.args.base None (marks_of c.args.row.now c.args.turns start c.args.events.now) in
    then_ok c.write_end.result (g.O.Write.contents c.args.output.now) (g.O.Write.contents c.loop-event.output) (g.O.Write.contents c.write_end.new.output) all (codes "\"/>\n")
    (written_all all (marks_text c.args.row.now c.args.base c.loop-event.last (marks_of c.args.row.now c.args.turns c.loop-event.moment (drop c.loop-event.event-index c.args.events.now)))
    (g.O.Write.contents c.args.output.now) (g.O.Write.contents c.loop-event.output) c.loop-event.invariant.drawn
    (marks_end c.args.row.now c.args.turns c.args.base c.loop-event.moment c.loop-event.last (drop c.loop-event.event-index c.args.events.now) (drop_all c.args.events.now c.loop-event-test.false)))
    c.write_end.ensures
