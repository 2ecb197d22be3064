use Rattle.std.proofs.Common.{ℕ, ◌+◌, ◌∷◌, ap, sym, subst, ◌∙◌, drop, drop_of_length-le as drop_all, arith}
use Rattle.std.proofs.lemmas.List.{drop_more}
use Rattle.std.specs.Io.KnownBytes.{Appends}
use Rattle.timeline.specs.declared.row.Row.{Row}
use Rattle.timeline.specs.Picture.{room_of, row_text, rows_text}
use Rattle.timeline.proofs.Steps.{rows_end, rows_next}
use Rattle.timeline.proofs.Written.{HasWritten, written_all, written_more}
use Rattle.timeline.proofs.drawing.write_rows.Goals as goal

pub loop-row-preserved : goal.loop-row-preserved
loop-row-preserved g c =
    let row = c.row-item.result in
    let rest = drop (c.loop-row.row-index + 1) c.args.rows.now in
    let next = rows_next c.args.turns c.args.events.now c.loop-row.base (drop c.loop-row.row-index c.args.rows.now) row rest (drop_more c.args.rows.now c.loop-row.row-index row c.loop-row-test.true ∙ ap (λ (i : Row). i ∷ drop (c.loop-row.row-index + 1) c.args.rows.now) (sym c.row-item.is)) in
    record {
      drawn = subst (λ (n : ℕ). HasWritten (rows_text c.args.turns c.args.events.now 52 c.args.rows.now) (rows_text c.args.turns c.args.events.now (c.loop-row.base + n) rest) (g.O.Write.contents c.args.output.now) (g.O.Write.contents c.write_row.new.output)) (sym c.room_of-base.ensures.value)
          (written_more (rows_text c.args.turns c.args.events.now 52 c.args.rows.now) (rows_text c.args.turns c.args.events.now c.loop-row.base (drop c.loop-row.row-index c.args.rows.now)) (row_text row c.args.turns c.args.events.now (c.loop-row.base + room_of row)) (rows_text c.args.turns c.args.events.now (c.loop-row.base + room_of row) rest)
          (g.O.Write.contents c.args.output.now) (g.O.Write.contents c.loop-row.output) (g.O.Write.contents c.write_row.new.output) c.loop-row.invariant.drawn next
          (subst (λ (n : ℕ). Appends (g.O.Write.contents c.loop-row.output) (g.O.Write.contents c.write_row.new.output) (row_text row c.args.turns c.args.events.now (c.loop-row.base + n))) c.room_of-base.ensures.value c.in_ok-write_row.ensures));
      most = omega (arith, c.loop-row.invariant.most, c.room_of-base.ensures.most);
      least = omega (arith, c.loop-row.invariant.least);
    }

pub returns : goal.returns
returns g c =
    written_all (rows_text c.args.turns c.args.events.now 52 c.args.rows.now) (rows_text c.args.turns c.args.events.now c.loop-row.base (drop c.loop-row.row-index c.args.rows.now)) (g.O.Write.contents c.args.output.now) (g.O.Write.contents c.loop-row.output) c.loop-row.invariant.drawn
    (rows_end c.args.turns c.args.events.now c.loop-row.base (drop c.loop-row.row-index c.args.rows.now) (drop_all c.args.rows.now c.loop-row-test.false))
