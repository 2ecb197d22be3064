use Rattle.std.proofs.Common.{[], ◌++◌, codes}
use Rattle.std.proofs.KnownBytes.{Appends-trans}
use Rattle.timeline.specs.Picture.{framed, turn_at}
use Rattle.timeline.proofs.Written.{then_ok}
use Rattle.timeline.proofs.drawing.write_turn_at.Goals as goal

pub returns : goal.returns
unfolding turn_at
returns g c =
    then_ok c.write_framed-4.result (g.O.Write.contents c.args.output.now) (g.O.Write.contents c.write_framed-3.new.output) (g.O.Write.contents c.write_framed-4.new.output) (((framed (codes "<text text-anchor=\"middle\" x=\"") c.args.x (codes "\" y=\"46\">")) ++ (framed [] c.args.turn (codes "</text>\n"))) ++ (framed (codes "<path stroke-width=\"0.3\" stroke-dasharray=\"1 3\" d=\"M") c.args.x (codes " 50V"))) (framed [] c.args.bottom (codes "\"/>\n"))
    (Appends-trans (g.O.Write.contents c.args.output.now) (g.O.Write.contents c.write_framed-2.new.output) (g.O.Write.contents c.write_framed-3.new.output) ((framed (codes "<text text-anchor=\"middle\" x=\"") c.args.x (codes "\" y=\"46\">")) ++ (framed [] c.args.turn (codes "</text>\n"))) (framed (codes "<path stroke-width=\"0.3\" stroke-dasharray=\"1 3\" d=\"M") c.args.x (codes " 50V"))
    (Appends-trans (g.O.Write.contents c.args.output.now) (g.O.Write.contents c.write_framed.new.output) (g.O.Write.contents c.write_framed-2.new.output) (framed (codes "<text text-anchor=\"middle\" x=\"") c.args.x (codes "\" y=\"46\">")) (framed [] c.args.turn (codes "</text>\n"))
    c.in_ok-write_framed.ensures c.in_ok-write_framed-2.ensures) c.in_ok-write_framed-3.ensures) c.write_framed-4.ensures
