use Rattle.std.proofs.Common.{[], ◌-◌, ◌++◌, codes}
use Rattle.std.proofs.KnownBytes.{Appends-trans}
use Rattle.timeline.specs.Picture.{framed, scale_at}
use Rattle.timeline.proofs.Written.{then_ok}
use Rattle.timeline.proofs.pieces.write_scale_at.Goals as goal

pub returns : goal.returns
unfolding scale_at
returns g c =
    let old = g.O.Write.contents c.args.output.now in
    let one = g.O.Write.contents c.write_framed.new.output in
    let two = g.O.Write.contents c.write_framed-2.new.output in
    let three = g.O.Write.contents c.write_framed-3.new.output in
    let upper = framed (codes "<path stroke-width=\"0.3\" stroke-dasharray=\"1 3\" d=\"M170 ") (c.args.base - 48) (codes "H1170M170 ") in
    let lower = framed [] (c.args.base - 24) (codes "H1170\"/>\n") in
    let whole = framed (codes "<text font-size=\"8\" x=\"1174\" y=\"") (c.args.base - 45) (codes "\">100%</text>\n") in
    let half = framed (codes "<text font-size=\"8\" x=\"1174\" y=\"") (c.args.base - 21) (codes "\">50%</text>\n") in
    then_ok c.write_framed-4.result old three (g.O.Write.contents c.write_framed-4.new.output) ((upper ++ lower) ++ whole) half
    (Appends-trans old two three (upper ++ lower) whole
    (Appends-trans old one two upper lower c.in_ok-write_framed.ensures c.in_ok-write_framed-2.ensures) c.in_ok-write_framed-3.ensures) c.write_framed-4.ensures
