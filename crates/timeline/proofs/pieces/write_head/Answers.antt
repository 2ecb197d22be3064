use Rattle.std.proofs.Common.{ℕ, List, ◌++◌, subst}
use Rattle.std.proofs.KnownBytes.{Appends-trans}
use Rattle.std.specs.Prelude.{OnOk}
use Rattle.std.specs.Io.KnownBytes.{Appends}
use Rattle.timeline.specs.Picture.{base_line, head_text, label_open, name_of, path_open, scale_text, style_of}
use Rattle.timeline.proofs.Written.{then_ok}
use Rattle.timeline.proofs.pieces.write_head.Goals as goal

pub returns : goal.returns
unfolding head_text
returns g c =
    let old = g.O.Write.contents c.args.output.now in
    let labelled = g.O.Write.contents c.write_label_open.new.output in
    let named = g.O.Write.contents c.write_name.new.output in
    let based = g.O.Write.contents c.write_base.new.output in
    let scaled = g.O.Write.contents c.write_scale.new.output in
    let label = label_open c.args.base in
    let name = name_of c.args.row.now in
    let base = base_line c.args.base in
    let scale = scale_text c.args.row.now c.args.base in
    then_ok c.write_style.result old scaled (g.O.Write.contents c.write_style.new.output) (((label ++ name) ++ base) ++ scale) (path_open (style_of c.args.row.now))
    (Appends-trans old based scaled ((label ++ name) ++ base) scale
    (Appends-trans old named based (label ++ name) base
    (Appends-trans old labelled named label name c.in_ok-write_label_open.ensures c.in_ok-write_name.ensures)
    c.in_ok-write_base.ensures) c.in_ok-write_scale.ensures)
    (subst (λ (s : List ℕ). OnOk c.write_style.result (Appends scaled (g.O.Write.contents c.write_style.new.output) (path_open s))) c.style_of.ensures c.write_style.ensures)
